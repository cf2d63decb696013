-- `Frames` is kept by each step of a call.
use Rattle.std.proofs.Common.{◌≡◌, ℕ, eqb, cond, true, false, not, zero, suc, ◌+◌, ◌*◌, ◌<◌, ◌≤◌, ◌≢◌, bit_or, List, [], ◌∷◌, filter, length, get_or, get_or-set_same, get_or-set_other, set, take, drop, sym, refl, ap, ◌∙◌, subst, inl, inr, ⊎_elim, arith, suc-mul, mul-le-mul_right, Option, Some, None}
use Rattle.std.specs.Prelude.{IsSomeAnd, is_some}
use Rattle.std.specs.List.{sum_by, count_by}
use Rattle.std.proofs.lemmas.Option.{same_Some, none-some}
use Rattle.std.proofs.lemmas.List.{drop-set-lt, drop-set-add, take-set-le, length-take, length-drop, set-get_or}
use Rattle.std.proofs.lemmas.List.Sums.{sum_by-cons, sum_by_push}
use Rattle.std.proofs.lemmas.Grind.{common_steps}
use mathlib.Core.Logic.{dite}
use native.Mathlib.Decide.{ℕ_discrete}
use Rattle.evac_model.specs.declared.names.FrameNo.{FrameNo}
use Rattle.evac_model.specs.declared.names.PageNo.{PageNo}
use Rattle.evac_words.specs.Word.{mapped_bit, frame_of, pins_of, bound_of, bit_of}
use Rattle.evac_words.specs.Table.{entry_index, dirty_index, cell_index}
use Rattle.core_state.specs.declared.hand.HandFrame.{HandFrame}
use Rattle.core_state.specs.declared.held.Held.{Held}
use Rattle.core_state.specs.declared.keeper.Keeper.{Keeper}
use Rattle.core_state.specs.declared.opening.Opening.{Opening}
use Rattle.core_state.specs.declared.step.CallDone.{CallDone}
use Rattle.core_state.specs.declared.step.Step.{Step}
use Rattle.core_state.specs.declared.step.Step.TheVariants.{Take, Draw, Load, Store, Mark, Release}
use Rattle.core_state.specs.declared.view.View.{View}
use Rattle.core_state.specs.Words.{next_ticket_of, entry_word_of, cells_of_frame, released_word}
use Rattle.core_state.specs.Views.{Has, hand_frame, times_in_hand, times_in_hands, times_unmarked, maps_to, Owns}
use Rattle.core_state.specs.Parts.{Shaped, Turn}
use Rattle.core_state.specs.Pages.{Agrees}
use Rattle.core_state.specs.Frames.{all_entry_words, times_mapped, Frames}
use Rattle.core_state.specs.Steps.{MayTake, MayStore, MayLetGo, MayEnd, with_hand_store, with_unmarked, with_ticket, held_page, held_ticket, pins_after, word_after_release, after_take, after_draw, after_load, after_store, after_mark, after_release, Allowed}
use Rattle.core_state.specs.Stepped.{words_after, views_after}
use Rattle.core_state.proofs.Lists.{at_set, sum_by_replaced}
use Rattle.core_state.proofs.EntryWords.{same_flags-take, mapped_bit-released, frame_of-released}
use Rattle.core_state.proofs.WordsAt.{cells_of_frame-before}
use Rattle.core_state.proofs.Holding.{for_some, held_alike-load, held_alike-store}
use Rattle.core_state.proofs.Cells.{at_entry, all_entry_words-set, all_entry_words-cell, cells_of_frame-same, cells_of_frame-other}
use Rattle.core_state.proofs.Frames.{one_owner, owned_in_range}
use Rattle.core_state.proofs.Pages.{SameCells}
use Rattle.core_state.proofs.SeatSteps.{same_hand-store}

-- ---- small facts

pub some_and : (m : Option Held) (h : Held) (P : Held → Type 0) → m ≡ Some h → P h → IsSomeAnd m P
some_and m h P e p = subst (λ (x : Option Held). IsSomeAnd x P) (sym e) p

-- what a view owns, it owns as long as it holds what it held and has the frame in hand
pub owns-kept : (v w : View) (f : ℕ) → times_in_hand f w ≡ times_in_hand f v → ((h : Held) → v.held ≡ Some h → (g : Held) × (w.held ≡ Some g) × (g.word ≡ h.word)) → Owns v f → Owns w f
owns-kept v w f same holds = ⊎_elim
    (λ hand. inl (omega arith))
    (λ held. let q = for_some v.held (λ h. maps_to f h.word ≡ 1) held in let r = holds q.0 q.1 in
    inr (some_and w.held r.0 (λ h. maps_to f h.word ≡ 1) r.1 (ap (λ m. maps_to f m) r.2 ∙ q.2)))

pub maps_to-same : (f w x : ℕ) → mapped_bit w ≡ mapped_bit x → frame_of w ≡ frame_of x → maps_to f w ≡ maps_to f x
maps_to-same f w x m g = grind (arith, common_steps)

pub length-cells_of_frame : (o : Opening) (words : List ℕ) (f : ℕ) → Shaped o words → f < o.frames → length (cells_of_frame o words f) ≡ o.cells
length-cells_of_frame o words f s low =
    let a : suc f * o.cells ≤ o.frames * o.cells = mul-le-mul_right o.cells low in let b = suc-mul f o.cells in let c = s.long in
    let d = length-drop (cell_index o.pages o.frames o.cells f 0) words in
    length-take o.cells (drop (cell_index o.pages o.frames o.cells f 0) words) ∙ omega arith

-- a place of a hand after it was written
pub hand-set_same : (hand : List (Option HandFrame)) (f : ℕ) (y : Option HandFrame) → (get_or hand f None ≡ None → y ≡ None) → get_or (set hand f y) f None ≡ y
hand-set_same [] f y none = sym (none refl)
hand-set_same (x ∷ xs) zero y none = refl
hand-set_same (x ∷ xs) (suc f) y none = hand-set_same xs f y none

pub in_hand-some : (v : View) (f : ℕ) (x : HandFrame) → hand_frame v f ≡ Some x → times_in_hand f v ≡ 1
in_hand-some v f x e = ap (λ (m : Option HandFrame). bit_of (is_some m)) e

-- ---- marks

abbrev without : ℕ → List FrameNo → List FrameNo
without f l = filter (λ x. not (eqb x.0 f)) l

abbrev count_of : ℕ → List FrameNo → ℕ
count_of f l = count_by (λ x. eqb x.0 f) l

-- one where it is that frame, else 0
abbrev hits : ℕ → FrameNo → ℕ
hits f x = cond (eqb x.0 f) 1 0

count_of-cons : (f : ℕ) (x : FrameNo) (l : List FrameNo) → count_of f (x ∷ l) ≡ hits f x + count_of f l
count_of-cons f x l = sum_by-cons (λ (y : FrameNo). cond (eqb y.0 f) 1 0) x l

pub count_of-without_other : (f g : ℕ) (l : List FrameNo) → g ≢ f → count_of g (without f l) ≡ count_of g l
count_of-without_other f g [] ne = refl
count_of-without_other f g (x ∷ l) ne = let rest = count_of-without_other f g l ne in grind (arith, common_steps, count_of-cons g x l, count_of-cons g x (without f l))

pub count_of-without_same : (f : ℕ) (l : List FrameNo) → count_of f (without f l) ≡ 0
count_of-without_same f [] = refl
count_of-without_same f (x ∷ l) = let rest = count_of-without_same f l in grind (arith, common_steps, count_of-cons f x (without f l))

-- a store makes its frame unmarked, and no other
pub unmarked-store_other : (v : View) (frame : FrameNo) (f : ℕ) → f ≢ frame.0 → count_of f (with_unmarked v frame) ≡ times_unmarked f v
unmarked-store_other v frame f ne = grind (arith, common_steps, sum_by_push (λ (y : FrameNo). cond (eqb y.0 f) 1 0) v.unmarked frame)

pub unmarked-store_same : (v : View) (frame : FrameNo) → 0 < count_of frame.0 (with_unmarked v frame)
unmarked-store_same v frame = grind (arith, common_steps, sum_by_push (λ (y : FrameNo). cond (eqb y.0 frame.0) 1 0) v.unmarked frame)

-- ---- general laws

module _ (o : Opening) (words : List ℕ) (views : List View) (i : ℕ) (v : View) (k : Frames o words views) (at : Has views i v) where
  -- whatever the word, where all mapped frames and those in hand stay the same together
  pub frames-balanced : (j n : ℕ) (w : View)
      → ((f : ℕ) → times_mapped o f (set words j n) + times_in_hand f w ≡ times_mapped o f words + times_in_hand f v)
      → ((m : ℕ) (y : View) (f : ℕ) (x : HandFrame) → m ≢ i → Has views m y → hand_frame y f ≡ Some x → Agrees x.stores (cells_of_frame o (set words j n) f))
      → ((f : ℕ) (x : HandFrame) → hand_frame w f ≡ Some x → Agrees x.stores (cells_of_frame o (set words j n) f))
      → ((f : ℕ) → 0 < times_unmarked f w → Owns w f)
      → Frames o (set words j n) (set views i w)
  frames-balanced j n w balance others own marks = record {
    each_once = λ f low. let a = total f in let b = k.each_once f low in omega arith;
    no_other = λ f high. let a = total f in let b = k.no_other f high in omega arith;
    stored = λ m y f x has is. ⊎_elim
        (λ q. own f x (ap (λ (z : View). hand_frame z f) q.1 ∙ is))
        (λ q. others m y f x q.0 q.1 is)
        (at_set views i m w y has);
    unmarked = λ m y f has some. ⊎_elim
        (λ q. subst (λ (z : View). Owns z f) q.1 (marks f (subst (λ (z : View). 0 < times_unmarked f z) (sym q.1) some)))
        (λ q. k.unmarked m y f q.1 some)
        (at_set views i m w y has);
  } where
    total : (f : ℕ) → times_mapped o f (set words j n) + times_in_hands f (set views i w) ≡ times_mapped o f words + times_in_hands f views
    total f = let b = sum_by_replaced (λ x. times_in_hand f x) views i v w at in let d = balance f in omega arith

  -- a step on a word that is no entry word and no cell
  pub frames-elsewhere : (j n : ℕ) (w : View) → all_entry_words o (set words j n) ≡ all_entry_words o words → SameCells o words (set words j n)
      → w.hand ≡ v.hand
      → ((f : ℕ) → 0 < times_unmarked f w → Owns w f)
      → Frames o (set words j n) (set views i w)
  frames-elsewhere j n w entries cells hand marks = frames-balanced j n w
      (λ f. let a = ap (λ (l : List ℕ). sum_by (λ m. maps_to f m) l) entries in let b = ap (λ (l : List (Option HandFrame)). bit_of (is_some (get_or l f None))) hand in omega arith)
      (λ m y f x ne has is. subst (λ (l : List ℕ). Agrees x.stores l) (sym (cells f)) (k.stored m y f x has is))
      (λ f x is. subst (λ (l : List ℕ). Agrees x.stores l) (sym (cells f)) (k.stored i v f x at (ap (λ (l : List (Option HandFrame)). get_or l f None) (sym hand) ∙ is)))
      marks

  -- a step on an entry word: the frames that the word maps and those in hand are the same together
  pub frames-at_entry : (p n : ℕ) (w : View) → Shaped o words → p < o.pages
      → ((f : ℕ) → maps_to f n + times_in_hand f w ≡ maps_to f (entry_word_of words p) + times_in_hand f v)
      → ((f : ℕ) (x : HandFrame) → hand_frame w f ≡ Some x → Agrees x.stores (cells_of_frame o words f))
      → ((f : ℕ) → 0 < times_unmarked f w → Owns w f)
      → Frames o (set words (entry_index p) n) (set views i w)
  frames-at_entry p n w s lt balance own marks = frames-balanced (entry_index p) n w
      (λ f. let a = sum_by_replaced (λ x. maps_to f x) (all_entry_words o words) p (entry_word_of words p) n (at_entry o words p s lt) in
      let c = ap (λ (l : List ℕ). sum_by (λ x. maps_to f x) l) (all_entry_words-set o words p n lt) in
      let d = balance f in omega arith)
      (λ m y f x ne has is. subst (λ (l : List ℕ). Agrees x.stores l) (sym (cells f)) (k.stored m y f x has is))
      (λ f x is. subst (λ (l : List ℕ). Agrees x.stores l) (sym (cells f)) (own f x is))
      marks where
        cells : (f : ℕ) → cells_of_frame o (set words (entry_index p) n) f ≡ cells_of_frame o words f
        cells f = cells_of_frame-before o words (entry_index p) n f (omega arith)

  pub frames-take : (c : Keeper) (page : PageNo) → Shaped o words → MayTake o v page.0
      → Frames o (set words (entry_index page.0) (bit_or (entry_word_of words page.0) 1)) (set views i (after_take c v page (entry_word_of words page.0)))
  frames-take c page s may = let f = same_flags-take (entry_word_of words page.0) in
      frames-at_entry page.0 (bit_or (entry_word_of words page.0) 1) (after_take c v page (entry_word_of words page.0)) s may.in_range
      (λ g. let a = maps_to-same g (bit_or (entry_word_of words page.0) 1) (entry_word_of words page.0) f.mapped f.frame in omega arith)
      (λ g x is. k.stored i v g x at is)
      (λ g some. owns-kept v (after_take c v page (entry_word_of words page.0)) g refl (λ h is. absurd (none-some h (sym may.holds_none ∙ is))) (k.unmarked i v g at some))

  -- a release, where no frame is unmarked
  pub frames-release : (h : Held) (n : ℕ) (end : Option CallDone) → Shaped o words → Turn o words views → v.held ≡ Some h → v.unmarked ≡ [] → (after_release v end).hand ≡ v.hand → (after_release v end).unmarked ≡ v.unmarked → mapped_bit n ≡ mapped_bit h.word → frame_of n ≡ frame_of h.word
      → Frames o (set words (entry_index h.page.0) n) (set views i (after_release v end))
  frames-release h n end s t holds marked hand same m g = let mine = t.held_word i v h at holds in
      frames-at_entry h.page.0 n (after_release v end) s mine.0
      (λ f. let a = maps_to-same f n h.word m g in let b : maps_to f (entry_word_of words h.page.0) ≡ maps_to f h.word = ap (λ w. maps_to f w) mine.1 in
      let c = ap (λ (l : List (Option HandFrame)). bit_of (is_some (get_or l f None))) hand in omega arith)
      (λ f x is. k.stored i v f x at (ap (λ (l : List (Option HandFrame)). get_or l f None) (sym hand) ∙ is))
      (λ f some. absurd (let a : times_unmarked f (after_release v end) ≡ 0 = ap (λ (l : List FrameNo). count_of f l) (same ∙ marked) in omega arith))

  pub frames-draw : (n : ℕ) → Frames o (set words 0 n) (set views i (after_draw v (next_ticket_of words)))
  frames-draw n = frames-elsewhere 0 n (after_draw v (next_ticket_of words)) (ap (λ (l : List ℕ). take o.pages l) (drop-set-lt 1 words 0 n (omega arith)))
      (λ f. cells_of_frame-before o words 0 n f (omega arith)) refl
      (λ f some. owns-kept v (after_draw v (next_ticket_of words)) f refl
      (λ h is. (record h { ticket = Some (next_ticket_of words) }, ap (λ m. with_ticket m (next_ticket_of words)) is, refl)) (k.unmarked i v f at some))

  pub frames-load : (j cell x : ℕ) → set words j x ≡ words → Frames o (set words j x) (set views i (after_load v cell x))
  frames-load j cell x same = frames-elsewhere j x (after_load v cell x) (ap (λ (l : List ℕ). all_entry_words o l) same) (λ f. ap (λ (l : List ℕ). cells_of_frame o l f) same) refl
      (λ f some. owns-kept v (after_load v cell x) f refl (λ h is. let q = (held_alike-load v.held cell x).later h is in (q.0, q.1, q.3)) (k.unmarked i v f at some))

  pub frames-mark : (frame : FrameNo) (n : ℕ) → frame.0 < o.frames → Frames o (set words (dirty_index o.pages frame.0) n) (set views i (after_mark v frame))
  frames-mark frame n lt =
      let q : dirty_index o.pages frame.0 ≡ 1 + (o.pages + frame.0) = omega arith in
      frames-elsewhere (dirty_index o.pages frame.0) n (after_mark v frame)
      (ap (λ (j : ℕ). take o.pages (drop 1 (set words j n))) q ∙ ap (λ (l : List ℕ). take o.pages l) (drop-set-add 1 words (o.pages + frame.0) n) ∙ take-set-le o.pages (drop 1 words) (o.pages + frame.0) n (omega arith))
      (λ f. cells_of_frame-before o words (dirty_index o.pages frame.0) n f (omega arith)) refl
      (λ f some. owns-kept v (after_mark v frame) f refl (λ h is. (h, is, refl)) (k.unmarked i v f at (dite (ℕ_discrete f frame.0)
      (λ e. absurd (let a : times_unmarked f (after_mark v frame) ≡ 0 = ap (λ g. count_of g (without frame.0 v.unmarked)) e ∙ count_of-without_same frame.0 v.unmarked in omega arith))
      (λ ne. let a = count_of-without_other frame.0 f v.unmarked ne in omega arith))))

-- ---- store

agrees-set : (known : List (Option ℕ)) (cells : List ℕ) (c x : ℕ) → c < length cells → Agrees known cells → Agrees (set known c (Some x)) (set cells c x)
agrees-set known cells c x lt a d y is = ⊎_elim
    (λ q. ap (λ (k : ℕ). get_or (set cells c x) k 0) q.0 ∙ get_or-set_same cells c x 0 lt ∙ same_Some _ _ q.1)
    (λ q. get_or-set_other cells c d x 0 q.0 ∙ a d y q.1)
    (at_set known c d (Some x) (Some y) is)

module _ (o : Opening) (words : List ℕ) (views : List View) (i : ℕ) (v : View) (frame : FrameNo) (c x : ℕ) (s : Shaped o words) (t : Turn o words views) (k : Frames o words views) (at : Has views i v) (may : MayStore o v frame.0 c x) where
  hand_here : hand_frame (after_store v frame c x) frame.0 ≡ with_hand_store (hand_frame v frame.0) c x
  hand_here = hand-set_same v.hand frame.0 (with_hand_store (hand_frame v frame.0) c x) (λ e. ap (λ m. with_hand_store m c x) e)

  hand_other : (f : ℕ) → f ≢ frame.0 → hand_frame (after_store v frame c x) f ≡ hand_frame v f
  hand_other f ne = get_or-set_other v.hand frame.0 f (with_hand_store (hand_frame v frame.0) c x) None ne

  same_hand : (f : ℕ) → times_in_hand f (after_store v frame c x) ≡ times_in_hand f v
  same_hand = (same_hand-store v.hand frame.0 c x).times

  -- no other view has the frame in hand
  apart : (m : ℕ) (y : View) (z : HandFrame) → m ≢ i → Has views m y → hand_frame y frame.0 ≡ Some z → ⊥
  apart m y z ne has is = one_owner o words views s t k m i y v frame.0 ne has at (inl (let one = in_hand-some y frame.0 z is in omega arith)) may.own

  pub frames-store : Frames o (set words (cell_index o.pages o.frames o.cells frame.0 c) x) (set views i (after_store v frame c x))
  frames-store = frames-balanced o words views i v k at (cell_index o.pages o.frames o.cells frame.0 c) x (after_store v frame c x)
      (λ f. let a = ap (λ (l : List ℕ). sum_by (λ w. maps_to f w) l) (all_entry_words-cell o words frame.0 c x may.in_range) in let b = same_hand f in omega arith)
      (λ m y f z ne has is. subst (λ (l : List ℕ). Agrees z.stores l)
      (sym (cells_of_frame-other o words frame.0 c x may.in_range f (λ e. apart m y z ne has (ap (λ g. hand_frame y g) (sym e) ∙ is)))) (k.stored m y f z has is))
      (λ f z is. dite (ℕ_discrete f frame.0)
      (λ e. subst (λ (g : ℕ). Agrees z.stores (cells_of_frame o (set words (cell_index o.pages o.frames o.cells frame.0 c) x) g)) (sym e)
      (here (hand_frame v frame.0) refl z (sym hand_here ∙ ap (λ g. hand_frame (after_store v frame c x) g) (sym e) ∙ is)))
      (λ ne. subst (λ (l : List ℕ). Agrees z.stores l) (sym (cells_of_frame-other o words frame.0 c x may.in_range f ne)) (k.stored i v f z at (sym (hand_other f ne) ∙ is))))
      (λ f some. owns-kept v (after_store v frame c x) f (same_hand f) (λ h is. let q = (held_alike-store v.held frame.0 c x).later h is in (q.0, q.1, q.3)) (dite (ℕ_discrete f frame.0)
      (λ e. subst (λ (g : ℕ). Owns v g) (sym e) may.own)
      (λ ne. k.unmarked i v f at (let a = unmarked-store_other v frame f ne in omega arith)))) where
        here : (m : Option HandFrame) → hand_frame v frame.0 ≡ m → (z : HandFrame) → with_hand_store m c x ≡ Some z → Agrees z.stores (cells_of_frame o (set words (cell_index o.pages o.frames o.cells frame.0 c) x) frame.0)
        here None is z e = absurd (none-some z e)
        here (Some y) is z e =
            let low = owned_in_range o words views s t k i v frame.0 at may.own in
            let size = length-cells_of_frame o words frame.0 s low in let fit = may.in_range in
            subst (λ (q : HandFrame). Agrees q.stores (cells_of_frame o (set words (cell_index o.pages o.frames o.cells frame.0 c) x) frame.0)) (same_Some _ _ e)
            (subst (λ (l : List ℕ). Agrees (set y.stores c (Some x)) l) (sym (cells_of_frame-same o words frame.0 c x may.in_range))
            (agrees-set y.stores (cells_of_frame o words frame.0) c x (omega arith) (k.stored i v frame.0 y at is)))

-- ---- any step of a call

module _ (k : Keeper) (o : Opening) (words : List ℕ) (views : List View) (seat : ℕ) (v : View) (f : Frames o words views) (at : Has views seat v) (s : Shaped o words) (t : Turn o words views) where
  release : (h : Held) (end : Option CallDone) (pins b : ℕ) → v.held ≡ Some h → v.unmarked ≡ [] → (after_release v end).hand ≡ v.hand → (after_release v end).unmarked ≡ v.unmarked → pins ≤ 63 → word_after_release v.held end ≡ released_word h.word pins b
      → Frames o (set words (entry_index (held_page v.held)) (word_after_release v.held end)) (set views seat (after_release v end))
  release h end pins b holds marked hand same fits word =
      subst (λ (p : ℕ). Frames o (set words (entry_index p) (word_after_release v.held end)) (set views seat (after_release v end))) (sym (ap (λ m. held_page m) holds))
      (subst (λ (w : ℕ). Frames o (set words (entry_index h.page.0) w) (set views seat (after_release v end))) (sym word)
      (frames-release o words views seat v f at h (released_word h.word pins b) end s t holds marked hand same (mapped_bit-released h.word pins b (omega arith)) (frame_of-released h.word pins b (omega arith))))

pub steps_keep_frames : (k : Keeper) (o : Opening) (words : List ℕ) (views : List View) (seat : ℕ) (v : View) (step : Step) → Has views seat v → Shaped o words → Turn o words views → Frames o words views → Allowed o v step
    → Frames o (words_after o words v step) (views_after k o words views seat v step)
steps_keep_frames k o words views seat v (Take page) at s t f may = frames-take o words views seat v f at k page s may
steps_keep_frames k o words views seat v Draw at s t f may = frames-draw o words views seat v f at _
steps_keep_frames k o words views seat v (Load cell) at s t f may = frames-load o words views seat v f at _ cell _ (set-get_or words _ 0)
steps_keep_frames k o words views seat v (Store frame cell value) at s t f may = frames-store o words views seat v frame cell value s t f at may
steps_keep_frames k o words views seat v (Mark frame) at s t f may = frames-mark o words views seat v f at frame 1 (owned_in_range o words views s t f seat v frame.0 at may)
steps_keep_frames k o words views seat v (Release None) at s t f may = let p = for_some v.held (MayLetGo o v) may.1 in
    release k o words views seat v f at s t p.0 None (pins_of (p.0).word) (bound_of (p.0).word) p.1 may.0 refl refl (omega arith) (ap (λ (m : Option Held). word_after_release m None) p.1)
steps_keep_frames k o words views seat v (Release (Some d)) at s t f may = let p = for_some v.held (MayEnd o d) may.1 in
    release k o words views seat v f at s t p.0 (Some d) (pins_after d.call d.reply (pins_of (p.0).word)) (held_ticket (Some p.0) + 1) p.1 may.0 refl refl p.2.pins_fit (ap (λ (m : Option Held). word_after_release m (Some d)) p.1)
