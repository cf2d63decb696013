-- The words found that are kept, and the five words of a page that was busy in each round.
use Rattle.std.proofs.Common.{◌≡◌, ◌≢◌, ℕ, zero, suc, ◌==◌, ◌<◌, ◌≤◌, Bool, true, false, List, [], ◌∷◌, length, reverse, get_or, set, None, Some, refl, sym, ap, subst, ◌∙◌, arith}
use Rattle.std.specs.List.{AllByRecursion, Contains}
use Rattle.std.proofs.lemmas.Bool.{eqb-true, eqb-false}
use Rattle.std.proofs.lemmas.List.{get_or-set_same, get_or-set_other, length-set}
use Rattle.evac_model.specs.declared.names.BlockNo.{BlockNo}
use Rattle.evac_model.specs.declared.names.FrameNo.{FrameNo}
use Rattle.evac_model.specs.declared.names.PageNo.{PageNo}
use Rattle.evac_model.specs.declared.evacuation.MoveLease.{MoveLease}
use Rattle.evac_model.specs.Geometry.{Sizes, first_frame}
use Rattle.evac_model.proofs.Lists.{all_at, all_set}
use Rattle.evacuate.specs.declared.stage.Attempt.{Attempt}
use Rattle.evacuate.specs.Found.{is_busy}
use Rattle.evacuate.specs.Tale.{last_frame, is_next, AreInOrder, IsMovedOrBusy, IsRound, WasFound, WasBusy, WereBusyBefore}
use Rattle.evacuate.specs.Causes.{AreFound}
use Rattle.evacuate.specs.Evacuating.{place_of, words_of, with_word}
use Rattle.evacuate.specs.UnderWay.{IsKept, AreKept}
use Rattle.evacuate.proofs.Frames.{IsInside, inside_block, next_in_block}
use Rattle.evacuate.proofs.Rounds.{all_below}

-- what holds of each element holds of one of them
pub all_of : {X : Type 0} → (P : X → Type 0) (xs : List X) (x : X) → AllByRecursion P xs → Contains xs x → P x
all_of P xs x all c = subst P c.2 (all_at P xs all c.0 x c.1)

-- ---- a word is kept

abbrev HasFivePlaces : List ℕ → Type 0
HasFivePlaces row = length row ≡ 5

module _ (words : List (List ℕ)) where
  -- the word that was kept is there
  word_here : (place round word : ℕ) → place < length words → AllByRecursion HasFivePlaces words → round < 5 → get_or (words_of (with_word words place round word) place) round 0 ≡ word
  word_here place round word room five few =
      let places : length (words_of words place) ≡ 5 = all_at HasFivePlaces words five place [] room in
      ap (λ (row : List ℕ). get_or row round 0) (get_or-set_same words place (set (words_of words place) round word) [] room)
      ∙ get_or-set_same (words_of words place) round word 0 (omega arith)

  -- those of other frames and rounds stay
  word_beside_by : (place round word other k : ℕ) (same : Bool) → place < length words → (other == place) ≡ same → (other ≡ place → k ≢ round) → get_or (words_of (with_word words place round word) other) k 0 ≡ get_or (words_of words other) k 0
  word_beside_by place round word other k true room t apart =
      let here : other ≡ place = eqb-true other place t in
      ap (λ (n : ℕ). get_or (words_of (with_word words place round word) n) k 0) here
      ∙ (ap (λ (row : List ℕ). get_or row k 0) (get_or-set_same words place (set (words_of words place) round word) [] room)
      ∙ (get_or-set_other (words_of words place) round k word 0 (apart here) ∙ ap (λ (n : ℕ). get_or (words_of words n) k 0) (sym here)))
  word_beside_by place round word other k false room t apart =
      ap (λ (row : List ℕ). get_or row k 0) (get_or-set_other words place other (set (words_of words place) round word) [] (eqb-false other place t))

  -- each frame still has five places
  pub places_kept : (place round word : ℕ) → place < length words → AllByRecursion HasFivePlaces words → AllByRecursion HasFivePlaces (with_word words place round word)
  places_kept place round word room five =
      all_set HasFivePlaces words five place (set (words_of words place) round word) (length-set (words_of words place) round word ∙ all_at HasFivePlaces words five place [] room)

module _ (s : Sizes) (b : BlockNo) (words : List (List ℕ)) where
  -- a word of another frame or round
  kept_beside : (place round word : ℕ) (a : Attempt) (k : ℕ) → place < length words → (place_of s b a.lease.from ≡ place → k ≢ round) → IsKept s b words k a → IsKept s b (with_word words place round word) k a
  kept_beside place round word a k room apart kept =
      let other = place_of s b a.lease.from in
      λ w e. word_beside_by words place round word other k (other == place) room refl apart ∙ kept w e

  -- those of a round before stay
  kept_older : (place round word : ℕ) (attempts : List Attempt) (k : ℕ) → place < length words → k < round → AllByRecursion (IsKept s b words k) attempts → AllByRecursion (IsKept s b (with_word words place round word) k) attempts
  kept_older place round word [] k room l h = tt
  kept_older place round word (a ∷ attempts) k room l h =
      (kept_beside place round word a k room (λ here e. omega arith) h.0, kept_older place round word attempts k room l h.1)

  pub kept_rounds : (place round word : ℕ) (rounds : List (List Attempt)) → place < length words → length rounds ≤ round → AreKept s b words rounds → AreKept s b (with_word words place round word) rounds
  kept_rounds place round word [] room l h = tt
  kept_rounds place round word (r ∷ rounds) room l h =
      (kept_older place round word r (length rounds) room (omega arith) h.0, kept_rounds place round word rounds room (omega arith) h.1)

  -- those of the same round, of frames below
  kept_below : (frame : FrameNo) (round word : ℕ) (attempts : List Attempt) → place_of s b frame < length words → first_frame s b.0 ≤ frame.0 → AreInOrder s b attempts → AllByRecursion (λ (a : Attempt). a.lease.from.0 < frame.0) attempts → AllByRecursion (IsKept s b words round) attempts → AllByRecursion (IsKept s b (with_word words (place_of s b frame) round word) round) attempts
  kept_below frame round word [] room inside order below h = tt
  kept_below frame round word (a ∷ attempts) room inside order below h =
      let here : a.lease.from.0 < frame.0 = below.0 in
      let from : IsInside s b a.lease.from.0 = inside_block s b a.lease.from.0 (next_in_block s b (last_frame attempts) a.lease.from.0 order.0) in
      let least = from.from in
      (kept_beside (place_of s b frame) round word a round room (λ same e. omega arith) h.0, kept_below frame round word attempts room inside order.1 below.1 h.1)

  -- a frame of the block has a place
  pub place_room : (frame : FrameNo) → s.block ≤ length words → IsInside s b frame.0 → place_of s b frame < length words
  place_room frame room inside =
      let from = inside.from in let below = inside.below in omega arith

  pub next_room : (lease : MoveLease) (attempts : List Attempt) → s.block ≤ length words → is_next s b (last_frame attempts) lease.from.0 ≡ true → place_of s b lease.from < length words
  next_room lease attempts room next =
      place_room lease.from room (inside_block s b lease.from.0 (next_in_block s b (last_frame attempts) lease.from.0 next))

  -- the word found for the next frame
  kept_here : (lease : MoveLease) (round word : ℕ) → place_of s b lease.from < length words → AllByRecursion HasFivePlaces words → round < 5 → IsKept s b (with_word words (place_of s b lease.from) round word) round (record { lease = lease; found = Some word })
  kept_here lease round word room five few =
      λ w e. let same : word ≡ w = cc in word_here words (place_of s b lease.from) round word room five few ∙ same

  -- a page that was moved leaves no word
  pub kept_moved : (lease : MoveLease) (attempts : List Attempt) (rounds : List (List Attempt)) → AreKept s b words (attempts ∷ rounds) → AreKept s b words ((record { lease = lease; found = None } ∷ attempts) ∷ rounds)
  kept_moved lease attempts rounds h = (((λ w e. cc), h.0), h.1)

  pub kept_busy : (lease : MoveLease) (word : ℕ) (attempts : List Attempt) (rounds : List (List Attempt)) → length rounds ≤ 4 → s.block ≤ length words → AllByRecursion HasFivePlaces words → AreInOrder s b attempts → is_next s b (last_frame attempts) lease.from.0 ≡ true → AreKept s b words (attempts ∷ rounds) → AreKept s b (with_word words (place_of s b lease.from) (length rounds) word) ((record { lease = lease; found = Some word } ∷ attempts) ∷ rounds)
  kept_busy lease word attempts rounds few frames five order next h =
      let inside : IsInside s b lease.from.0 = inside_block s b lease.from.0 (next_in_block s b (last_frame attempts) lease.from.0 next) in
      let room = place_room lease.from frames inside in (
        (
          kept_here lease (length rounds) word room five (omega arith),
          kept_below lease.from (length rounds) word attempts room inside.from order (all_below s b lease.from.0 attempts order next) h.0,
        ),
        kept_rounds (place_of s b lease.from) (length rounds) word rounds room (omega arith) h.1,
      )

-- ---- the five words

-- the words of a frame in so many rounds, the newest first
abbrev pub words_down : (row : List ℕ) (rounds : ℕ) → List ℕ
words_down row zero = []
words_down row (suc k) = get_or row k 0 ∷ words_down row k

module _ (s : Sizes) (b : BlockNo) (words : List (List ℕ)) (frame : FrameNo) (page : PageNo) where
  abbrev row : List ℕ
  row = words_of words (place_of s b frame)

  -- the word found for the page is the one that is kept
  found_kept : (attempts : List Attempt) (round word : ℕ) → AllByRecursion (IsKept s b words round) attempts → WasFound attempts frame page word → get_or row round 0 ≡ word
  found_kept attempts round word kept found =
      all_of (IsKept s b words round) attempts (record { lease = record { from = frame; page = page; target = found.target }; found = Some word }) kept found.there word refl

  found_busy : (attempts : List Attempt) (word : ℕ) → AllByRecursion IsMovedOrBusy attempts → WasFound attempts frame page word → is_busy word frame.0 ≡ true
  found_busy attempts word all found =
      all_of IsMovedOrBusy attempts (record { lease = record { from = frame; page = page; target = found.target }; found = Some word }) all found.there

  before : (attempts : List Attempt) (word : ℕ) (r : List Attempt) → AllByRecursion (λ (a : Attempt). WasBusy r a.lease.from a.lease.page) attempts → WasFound attempts frame page word → WasBusy r frame page
  before attempts word r all found =
      all_of (λ (a : Attempt). WasBusy r a.lease.from a.lease.page) attempts (record { lease = record { from = frame; page = page; target = found.target }; found = Some word }) all found.there

  -- one round, with those before it
  found_in : (r : List Attempt) (round word : ℕ) → AllByRecursion (IsKept s b words round) r → AllByRecursion IsMovedOrBusy r → WasFound r frame page word → WasFound r frame page (get_or row round 0) × (is_busy (get_or row round 0) frame.0 ≡ true)
  found_in r round word kept all found =
      let e = sym (found_kept r round word kept found) in
      (subst (λ (w : ℕ). WasFound r frame page w) e found, subst (λ (w : ℕ). is_busy w frame.0 ≡ true) e (found_busy r word all found))

  pub found_each : (r : List Attempt) (rounds : List (List Attempt)) (word : ℕ) → AllByRecursion IsMovedOrBusy r → AllByRecursion (IsRound s b) rounds → AreKept s b words (r ∷ rounds) → WereBusyBefore r rounds → WasFound r frame page word → AreFound frame page (r ∷ rounds) (words_down row (length (r ∷ rounds)))
  found_each r [] word all good kept out found =
      let here = found_in r 0 word kept.0 all found in (here.0, here.1, tt)
  found_each r (q ∷ rounds) word all good kept out found =
      let here = found_in r (length (q ∷ rounds)) word kept.0 all found in
      let older = before r word q out.0 found in
      (here.0, here.1, found_each q rounds older.0 good.0.moved_or_busy good.1 kept.1 out.1 older.1)

-- five of them are the row
pub five_down : (row : List ℕ) → length row ≡ 5 → words_down row 5 ≡ reverse row
five_down [] h = absurd (omega arith)
five_down (a ∷ []) h = absurd (omega arith)
five_down (a ∷ b ∷ []) h = absurd (omega arith)
five_down (a ∷ b ∷ c ∷ []) h = absurd (omega arith)
five_down (a ∷ b ∷ c ∷ d ∷ []) h = absurd (omega arith)
five_down (a ∷ b ∷ c ∷ d ∷ e ∷ []) h = refl
five_down (a ∷ b ∷ c ∷ d ∷ e ∷ f ∷ rest) h = absurd (omega arith)

pub row_has_five : (words : List (List ℕ)) (place : ℕ) → AllByRecursion HasFivePlaces words → place < length words → length (words_of words place) ≡ 5
row_has_five words place five room = all_at HasFivePlaces words five place [] room
