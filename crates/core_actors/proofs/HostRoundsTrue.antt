-- What an evacuation was told stays true behind more actions of the frame space. And where it is true of five rounds in which a page was
-- busy, the five words were found for the page, in that order, each in an attempt of its own.
use Rattle.std.proofs.Common.{◌≡◌, ℕ, suc, ◌-◌, ◌<◌, ◌≤◌, List, [], ◌∷◌, ◌++◌, length, length-append, append_assoc, map, reverse, refl, sym, ap, ◌∙◌, subst, arith, Some}
use Rattle.std.specs.List.{AllByRecursion}
use Rattle.std.specs.List.Sorted.{IsNonDecreasing}
use Rattle.std.proofs.lemmas.Grind.{reverse_onto}
use Rattle.std.proofs.lemmas.List.{map-append, reverse-reverse}
use Rattle.std.proofs.lemmas.List.Sorted.{IsNonDecreasingBy-push}
use mathlib.Core.List.{reverse_aux}
use Rattle.evac_model.specs.declared.evacuation.EvacCause.{EvacCause}
use Rattle.evac_model.specs.declared.evacuation.EvacCause.TheVariants.{Unmovable, Pinned, NoTarget, Busy}
use Rattle.evac_model.specs.declared.names.BlockNo.{BlockNo}
use Rattle.evac_model.specs.declared.names.FrameNo.{FrameNo}
use Rattle.evac_model.specs.declared.names.PageNo.{PageNo}
use Rattle.evac_model.specs.declared.space.SpaceAction.{SpaceAction}
use Rattle.evac_model.proofs.Lists.{all_at, all_push, all_weaker}
use Rattle.evac_words.specs.Word.{bound_of}
use Rattle.evacuate.specs.declared.stage.Attempt.{Attempt}
use Rattle.evacuate.specs.Causes.{AreFound, WasBusyInFive}
use Rattle.evacuate.specs.Tale.{Tale, WasFound}
use Rattle.evacuate.proofs.Kept.{all_of}
use Rattle.host_work.specs.Truth.{SpaceRun, driver_did, take_number_at, Finds, WasTriedAt, AreFoundFrom, BusyHolds, IsCauseTrue, DidBehind, IsNotAbove, AreNotAbove, IsFoundBehind, IsTrueAttempt, AreTrueAttempts, AreTrueRounds}
use Rattle.host_work.proofs.TruthGrows.{did_grown, take_number_at_grown, was_tried_grown, found_from, true_grown, attempt_grown, rounds_grown}
use Rattle.machine.specs.World.{Setting, World}
use Rattle.core_actors.specs.HostFound.{space_run, DriverFound, IsTrueEnd}
use Rattle.core_actors.proofs.HostTruths.{Adds}

-- ---- behind more actions

abbrev run_by : Setting → List SpaceAction → SpaceRun
run_by c journal = record { sizes = c.sizes; online = c.online; start = c.space; journal = journal }

module _ (c : Setting) (w x : World) (adds : Adds c w x) where
  pub longer_adds : length w.space ≤ length x.space
  longer_adds = let same = ap (λ (j : List SpaceAction). length j) adds.space ∙ length-append w.space adds.more in omega arith

  -- the takes before a place stay as many
  pub take_adds : (place : ℕ) → place ≤ length w.space → take_number_at (space_run c x) place ≡ take_number_at (space_run c w) place
  take_adds place inside = ap (λ (j : List SpaceAction). take_number_at (run_by c j) place) adds.space ∙ take_number_at_grown (space_run c w) adds.more place inside

  pub behind_adds : (number : ℕ) (rounds : List (List Attempt)) (page : PageNo) (word : ℕ) → IsFoundBehind (DriverFound w) number rounds page word → IsFoundBehind (DriverFound x) number rounds page word
  behind_adds number rounds page word h = record { found = adds.found number page word h.found; late = h.late }

  -- behind what the evacuation did, and maybe more
  module _ (before : List SpaceAction) (b : BlockNo) (own own_more after : List SpaceAction) (longer : own ++ own_more ≡ after) where
    cause_adds : (why : EvacCause) → IsCauseTrue (space_run c w) (DriverFound w) before b own why → IsCauseTrue (space_run c x) (DriverFound x) before b after why
    cause_adds why is =
        subst (λ (l : List SpaceAction). IsCauseTrue (space_run c x) (DriverFound x) before b l why) longer
        (subst (λ (j : List SpaceAction). IsCauseTrue (run_by c j) (DriverFound x) before b (own ++ own_more) why) (sym adds.space)
        (true_grown (space_run c w) adds.more (DriverFound w) (DriverFound x) adds.found before b own own_more why is))

    -- what it did behind the place where no frame was free has what it did besides
    did_adds : (behind behind_now : List SpaceAction) → behind ++ own_more ≡ behind_now → (why : EvacCause) → IsCauseTrue (space_run c w) (DriverFound w) before b own why → DidBehind (space_run c w) before own behind why → DidBehind (space_run c x) before after behind_now why
    did_adds behind behind_now same (Unmovable frame page) is did = tt
    did_adds behind behind_now same (Pinned frame page word) is did = tt
    did_adds behind behind_now same (NoTarget frame page at) is did =
        let then : List SpaceAction = driver_did (space_run c w) at in
        let still : driver_did (space_run c x) at ≡ then = ap (λ (j : List SpaceAction). driver_did (run_by c j) at) adds.space ∙ did_grown (space_run c w) adds.more at is.holds.was_out.inside in
        ap (λ (l : List SpaceAction). l ++ behind_now) still
        ∙ (ap (λ (l : List SpaceAction). then ++ l) (sym same)
        ∙ (sym (append_assoc then behind own_more)
        ∙ (ap (λ (l : List SpaceAction). l ++ own_more) did
        ∙ (append_assoc before own own_more ∙ ap (λ (l : List SpaceAction). before ++ l) longer))))
    did_adds behind behind_now same (Busy frame page words) is did = tt

    pub end_adds : (behind behind_now : List SpaceAction) → behind ++ own_more ≡ behind_now → (why : EvacCause) → IsTrueEnd (space_run c w) (DriverFound w) before b own behind why → IsTrueEnd (space_run c x) (DriverFound x) before b after behind_now why
    end_adds behind behind_now same why is = record { holds = cause_adds why is.holds; did = did_adds behind behind_now same why is.holds is.did }

    pub tried_adds : (frame : FrameNo) (page : PageNo) (target : FrameNo) (place : ℕ) → WasTriedAt (space_run c w) before b own frame page target place → WasTriedAt (space_run c x) before b after frame page target place
    tried_adds frame page target place was =
        subst (λ (l : List SpaceAction). WasTriedAt (space_run c x) before b l frame page target place) longer
        (subst (λ (j : List SpaceAction). WasTriedAt (run_by c j) before b (own ++ own_more) frame page target place) (sym adds.space)
        (was_tried_grown (space_run c w) adds.more before b own own_more frame page target place was))

    pub attempt_adds : (rounds : List (List Attempt)) (a : Attempt) (place : ℕ) → IsTrueAttempt (space_run c w) (DriverFound w) before b own rounds a place → IsTrueAttempt (space_run c x) (DriverFound x) before b after rounds a place
    attempt_adds rounds a place h =
        subst (λ (l : List SpaceAction). IsTrueAttempt (space_run c x) (DriverFound x) before b l rounds a place) longer
        (subst (λ (j : List SpaceAction). IsTrueAttempt (run_by c j) (DriverFound x) before b (own ++ own_more) rounds a place) (sym adds.space)
        (attempt_grown (space_run c w) adds.more (DriverFound w) (DriverFound x) adds.found before b own own_more rounds a place h))

    pub rounds_adds : (end : ℕ) (rounds : List (List Attempt)) → AreTrueRounds (space_run c w) (DriverFound w) before b own end rounds → AreTrueRounds (space_run c x) (DriverFound x) before b after end rounds
    rounds_adds end rounds all =
        subst (λ (l : List SpaceAction). AreTrueRounds (space_run c x) (DriverFound x) before b l end rounds) longer
        (subst (λ (j : List SpaceAction). AreTrueRounds (run_by c j) (DriverFound x) before b (own ++ own_more) end rounds) (sym adds.space)
        (rounds_grown (space_run c w) adds.more (DriverFound w) (DriverFound x) adds.found before b own own_more end rounds all))

-- ---- the attempts of a round

-- an attempt was made at a place of that part of the journal
pub record IsMadeIn (r : SpaceRun) (finds : Finds) (before : List SpaceAction) (b : BlockNo) (own : List SpaceAction) (rounds : List (List Attempt)) (begin end : ℕ) (a : Attempt) : Type 0 where
  pub place : ℕ
  pub begun : begin ≤ place
  pub ended : place < end
  pub made : IsTrueAttempt r finds before b own rounds a place

module _ (r : SpaceRun) (finds : Finds) (before : List SpaceAction) (b : BlockNo) (own : List SpaceAction) (rounds : List (List Attempt)) (begin : ℕ) where
  low_end : (end : ℕ) (attempts : List Attempt) → AreTrueAttempts r finds before b own rounds begin end attempts → begin ≤ end
  low_end end [] all = all
  low_end end (a ∷ attempts) all = omega (arith, low_end all.0 attempts all.3, all.1)

  pub all_made : (end : ℕ) (attempts : List Attempt) → AreTrueAttempts r finds before b own rounds begin end attempts → AllByRecursion (IsMadeIn r finds before b own rounds begin end) attempts
  all_made end [] all = tt
  all_made end (a ∷ attempts) all = (
    record { place = all.0; begun = low_end all.0 attempts all.3; ended = all.1; made = all.2 },
    all_weaker (IsMadeIn r finds before b own rounds begin all.0) (IsMadeIn r finds before b own rounds begin end)
        (λ other h. record { place = h.place; begun = h.begun; ended = omega (arith, h.ended, all.1); made = h.made }) attempts (all_made all.0 attempts all.3),
  )

-- ---- lists turned round

module _ {X : Type 0} (P : X → Type 0) where
  all_reversed : (xs : List X) → AllByRecursion P xs → AllByRecursion P (reverse xs)
  all_reversed [] all = tt
  all_reversed (x ∷ xs) all = subst (λ (l : List X). AllByRecursion P l) (sym (reverse_onto xs x [])) (all_push P (reverse xs) (all_reversed xs all.1) x all.0)

all_bounds : (bound : ℕ) (words : List ℕ) → AllByRecursion (λ (old : ℕ). bound_of old ≤ bound) words → AllByRecursion (λ (n : ℕ). n ≤ bound) (map bound_of words)
all_bounds bound [] all = tt
all_bounds bound (word ∷ words) all = (all.0, all_bounds bound words all.1)

-- a word behind those of the rounds before
rise_more : (words : List ℕ) (word : ℕ) → IsNonDecreasing (map bound_of (reverse words)) → AllByRecursion (λ (old : ℕ). bound_of old ≤ bound_of word) words → IsNonDecreasing (map bound_of (reverse (word ∷ words)))
rise_more words word rest low =
    let bounds : List ℕ = map bound_of (reverse words) in
    let below : AllByRecursion (λ (n : ℕ). n ≤ bound_of word) bounds = all_bounds (bound_of word) (reverse words) (all_reversed (λ (old : ℕ). bound_of old ≤ bound_of word) words low) in
    subst (λ (l : List ℕ). IsNonDecreasing (map bound_of l)) (sym (reverse_onto words word []))
    (subst (λ (l : List ℕ). IsNonDecreasing l) (sym (map-append bound_of (reverse words) (word ∷ [])))
    (IsNonDecreasingBy-push (λ (n : ℕ). n) bounds (bound_of word) rest (λ d some. all_at (λ (n : ℕ). n ≤ bound_of word) bounds below (length bounds - 1) d (omega arith))))

-- ---- the words of a page that was busy in each round

module _ (r : SpaceRun) (finds : Finds) (before : List SpaceAction) (b : BlockNo) (own : List SpaceAction) (frame : FrameNo) (page : PageNo) where
  abbrev tried : (target : FrameNo) (word : ℕ) → Attempt
  tried target word = record { lease = record { from = frame; page = page; target = target }; found = Some word }

  -- the attempt of a round that found the word
  found_in_round : (rounds : List (List Attempt)) (attempts : List Attempt) (begin end word : ℕ) → AreTrueAttempts r finds before b own rounds begin end attempts → (found : WasFound attempts frame page word)
      → IsMadeIn r finds before b own rounds begin end (tried found.target word)
  found_in_round rounds attempts begin end word all found = all_of (IsMadeIn r finds before b own rounds begin end) attempts (tried found.target word) (all_made r finds before b own rounds begin end attempts all) found.there

  -- the words of rounds, the oldest first, and behind them later ones
  words_found : (rounds : List (List Attempt)) (words later : List ℕ) (end : ℕ) → AreTrueRounds r finds before b own end rounds → AreFound frame page rounds words → AreFoundFrom r finds before b own frame page end later
      → AreFoundFrom r finds before b own frame page 0 (reverse_aux words later)
  words_found [] [] later end all found behind = found_from r finds before b own frame page 0 end (omega arith) later behind
  words_found [] (word ∷ words) later end all found behind = absurd found
  words_found (attempts ∷ rounds) [] later end all found behind = absurd found
  words_found (attempts ∷ rounds) (word ∷ words) later end all found behind =
      let a = found_in_round rounds attempts all.0 end word all.1 found.0 in
      words_found rounds words (word ∷ later) all.0 all.2 found.2 (
        a.place,
        a.begun,
        record { target = found.0.target; tried = a.made.tried; found = (a.made.word word refl).found },
        found.1,
        found_from r finds before b own frame page (suc a.place) end a.ended later behind,
      )

  -- no word of the rounds before has a bound above that of this one
  older_below : (rounds : List (List Attempt)) (words : List ℕ) (word : ℕ) → AreNotAbove rounds page word → AreFound frame page rounds words → AllByRecursion (λ (old : ℕ). bound_of old ≤ bound_of word) words
  older_below [] [] word late found = tt
  older_below [] (old ∷ words) word late found = absurd found
  older_below (attempts ∷ rounds) [] word late found = tt
  older_below (attempts ∷ rounds) (old ∷ words) word late found =
      (all_of (IsNotAbove page word) attempts (tried found.0.target old) late.0 found.0.there old refl refl, older_below rounds words word late.1 found.2)

  -- the oldest first, their bounds don't fall
  words_rise : (rounds : List (List Attempt)) (words : List ℕ) (end : ℕ) → AreTrueRounds r finds before b own end rounds → AreFound frame page rounds words → IsNonDecreasing (map bound_of (reverse words))
  words_rise [] [] end all found = λ i j d up below. absurd (omega arith)
  words_rise [] (word ∷ words) end all found = absurd found
  words_rise (attempts ∷ rounds) [] end all found = absurd found
  words_rise (attempts ∷ rounds) (word ∷ words) end all found =
      let a = found_in_round rounds attempts all.0 end word all.1 found.0 in
      rise_more words word (words_rise rounds words all.0 all.2 found.2) (older_below rounds words word (a.made.word word refl).late found.2)

  pub busy_true : (t : Tale) (words : List ℕ) (end : ℕ) → WasBusyInFive t frame page words → AreTrueRounds r finds before b own end (t.attempts ∷ t.rounds) → BusyHolds r finds before b own frame page words
  busy_true t words end busy all = record {
    five = busy.five;
    found = subst (λ (l : List ℕ). AreFoundFrom r finds before b own frame page 0 l) (reverse-reverse words) (words_found (t.attempts ∷ t.rounds) (reverse words) [] end all busy.found tt);
    rising = subst (λ (l : List ℕ). IsNonDecreasing (map bound_of l)) (reverse-reverse words) (words_rise (t.attempts ∷ t.rounds) (reverse words) end all busy.found);
  }
