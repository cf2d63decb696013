-- The history and the space journal that are worked out by hand go together.
use Rattle.std.proofs.Common.{◌≡◌, ℕ, zero, suc, ◌+◌, ◌<◌, ◌==◌, ◌≤◌, nat_lt, false, List, [], ◌∷◌, map, drop, None, Some, option_map, refl, sym, ap, subst, ◌∙◌, arith, inl, inr}
use Rattle.std.specs.FinMap.{gets, same_map, nat_cmp-IsAntisymmetric}
use Rattle.std.specs.Cmp.{nat_cmp_total}
use Rattle.std.proofs.lemmas.Option.{none-some}
use Rattle.std.proofs.lemmas.Bool.Decides.{nat_tests}
use Rattle.std.specs.Prelude.{Contains}
use Rattle.evac_model.specs.declared.names.Kind.{Kind}
use Rattle.evac_model.specs.declared.names.Kind.TheVariants.{Movable}
use Rattle.evac_model.specs.declared.call.Call.TheVariants.{Alloc}
use Rattle.evac_model.specs.declared.entry.Entry.{Entry}
use Rattle.evac_model.specs.declared.reply.Reply.TheVariants.{Done, NoFrame}
use Rattle.evac_model.specs.Page.{PlainPage, Page, new_page}
use Rattle.evac_model.specs.State.{PlainState, page_at, with_page, start_state}
use Rattle.evac_model.specs.Answer.{answer, refusal}
use Rattle.evac_model.specs.History.{IsLegal, IsLegalFrom, after_entries}
use Rattle.evac_model.specs.SpaceJournal.{Out, out_for, IsLeasable, space_at_start, space_after, IsPossibleJournal}
use Rattle.evac_model.specs.Scripts.{entries_of}
use Rattle.evac_model.specs.Pairing.{AreMadeBy, actions_of, IsRefusedAt, ArePaired, AreOutForPages, AreUnplugged}
use Rattle.evac_model.specs.Examples.{small, return}
use Rattle.evac_model.proofs.Pairings.{not_made}
use Rattle.evac_model.specs.PairingExamples.{lease_for, calls, full, full_start, page_1_freed, page_2_mapped, alloc_refused, page_2_freed, page_1_mapped, history, journal_of_full, IsRefusedThere}

pub calls_made : AreMadeBy calls (lease_for 1 8 5 Movable ∷ lease_for 1 9 5 Movable ∷ return 1 9 ∷ return 1 8 ∷ [])
calls_made =
    let last = return 1 8 ∷ [] in (
      lease_for 1 8 5 Movable ∷ [],
      lease_for 1 9 5 Movable ∷ return 1 9 ∷ last,
      refl,
      (record { 0 = 8 }, refl),
      (
        [],
        lease_for 1 9 5 Movable ∷ return 1 9 ∷ last,
        refl,
        refl,
        (
          lease_for 1 9 5 Movable ∷ return 1 9 ∷ [],
          last,
          refl,
          inr (record { 0 = 9 }, refl),
          ([], last, refl, inl refl, ([], last, refl, refl, (last, [], refl, (record { 0 = 8 }, refl), refl))),
        ),
      ),
    )

pub calls_without_frames : AreMadeBy calls (lease_for 1 8 5 Movable ∷ return 1 8 ∷ [])
calls_without_frames =
    let last = return 1 8 ∷ [] in (
      lease_for 1 8 5 Movable ∷ [],
      last,
      refl,
      (record { 0 = 8 }, refl),
      (
        [],
        last,
        refl,
        refl,
        (
          [],
          last,
          refl,
          inl refl,
          ([], last, refl, inl refl, ([], last, refl, refl, (last, [], refl, (record { 0 = 8 }, refl), refl))),
        ),
      ),
    )

all_possible : IsPossibleJournal full Movable (space_at_start full full_start) journal_of_full
all_possible =
    ((omega arith, λ e. cc), ((omega arith, omega arith, refl), ((omega arith, λ e. cc), ((omega arith, omega arith, refl), tt))))

no_test : (k who : ℕ) → k < 3 → (k == suc (suc (suc who))) ≡ false
no_test k who l = grind (arith, nat_tests)

made_by_all : (owner : ℕ) → AreMadeBy (entries_of (suc owner) history) (actions_of (suc owner) journal_of_full)
made_by_all zero =
    (lease_for 1 1 2 Movable ∷ [], return 1 1 ∷ [], refl, (record { 0 = 1 }, refl), (return 1 1 ∷ [], [], refl, (record { 0 = 1 }, refl), refl))
made_by_all (suc zero) = (
  return 2 1 ∷ [],
  lease_for 2 1 1 Movable ∷ [],
  refl,
  (record { 0 = 1 }, refl),
  ([], lease_for 2 1 1 Movable ∷ [], refl, refl, (lease_for 2 1 1 Movable ∷ [], [], refl, (record { 0 = 1 }, refl), refl)),
)
made_by_all (suc (suc n)) = rw (no_test 1 n (omega arith), no_test 2 n (omega arith)) refl

-- both frames are out behind two actions
none_is_free : (frame : ℕ) → ¬ IsLeasable full Movable (space_after full Movable (space_at_start full full_start) (return 2 1 ∷ lease_for 1 1 2 Movable ∷ [])) Movable frame
none_is_free zero l = let e = l.not_out in cc
none_is_free (suc zero) l = let e = l.not_out in cc
none_is_free (suc (suc n)) l = omega (arith, l.there)

pub refused_there : IsRefusedThere 2
refused_there = record {
  in_journal = omega arith;
  none_free = none_is_free;
  before = (return 2 1 ∷ [], [], refl, (record { 0 = 1 }, refl), refl);
  behind = (lease_for 2 1 1 Movable ∷ [], [], refl, (record { 0 = 1 }, refl), refl);
}

other_reply : {A : Type 0} (e : Entry) (at : ℕ) → e.reply ≡ Done → e.reply ≡ NoFrame at → A
other_reply e at d n = absurd (cc)

abbrev IsRefused : Entry → Kind → (at : ℕ) → Type 0
IsRefused e kind at =
    IsRefusedAt full Movable (space_at_start full full_start) journal_of_full (entries_of e.caller history) e kind at

-- the one alloc that was refused
refused_one : (e : Entry) (kind : Kind) (at : ℕ) → alloc_refused ≡ e → e.call ≡ Alloc kind → e.reply ≡ NoFrame at → IsRefused e kind at
refused_one e kind at is call reply =
    let its_call : Alloc Movable ≡ Alloc kind = ap (λ x. x.call) is ∙ call in
    let its_reply : NoFrame 2 ≡ NoFrame at = ap (λ x. x.reply) is ∙ reply in
    let its_kind : Movable ≡ kind = cc in
    let its_place : 2 ≡ at = cc in
    subst (λ x. IsRefused x kind at) is (subst (λ k. IsRefused alloc_refused k at) its_kind (subst (λ a. IsRefused alloc_refused Movable a) its_place refused_there))

all_refused : (e : Entry) (kind : Kind) (at : ℕ) → Contains history e → e.call ≡ Alloc kind → e.reply ≡ NoFrame at → IsRefused e kind at
all_refused e kind at (zero, l, is) call reply = other_reply e at (ap (λ x. x.reply) (sym is)) reply
all_refused e kind at (suc zero, l, is) call reply = other_reply e at (ap (λ x. x.reply) (sym is)) reply
all_refused e kind at (suc (suc zero), l, is) call reply = refused_one e kind at is call reply
all_refused e kind at (suc (suc (suc zero)), l, is) call reply = other_reply e at (ap (λ x. x.reply) (sym is)) reply
all_refused e kind at (suc (suc (suc (suc zero))), l, is) call reply = other_reply e at (ap (λ x. x.reply) (sym is)) reply
all_refused e kind at (suc (suc (suc (suc (suc n)))), l, is) call reply = absurd (omega arith)

pub full_paired : ArePaired full Movable (space_at_start full full_start) history journal_of_full
full_paired = record { possible = all_possible; made = made_by_all; refused = all_refused }

pub its_return_is_behind : ¬ AreMadeBy (page_1_freed ∷ []) []
its_return_is_behind = not_made (page_1_freed ∷ []) [] refl

pub its_lease_is_before : ¬ AreMadeBy (page_1_mapped ∷ []) []
its_lease_is_before = not_made (page_1_mapped ∷ []) [] refl

-- ---- the history is legal

legal_step : (n ticket : ℕ) (state : PlainState) (e : Entry) (es : List Entry) (p : Page) → page_at state e.page.0 ≡ p → e.ticket ≡ ticket → (answer n p e.call (refusal e.reply)).0 ≡ e.reply → IsLegalFrom n (ticket + 1) (with_page state e.page.0 (answer n p e.call (refusal e.reply)).1) es → IsLegalFrom n ticket state (e ∷ es)
legal_step n ticket state e es p at t r rest =
    (t, ap (λ m. (answer n m e.call (refusal e.reply)).0) at ∙ r, subst (λ m. IsLegalFrom n (ticket + 1) (with_page state e.page.0 (answer n m e.call (refusal e.reply)).1) es) (sym at) rest)

after_step : (n : ℕ) (state : PlainState) (e : Entry) (es : List Entry) (p : Page) → page_at state e.page.0 ≡ p → after_entries n state (e ∷ es) ≡ after_entries n (with_page state e.page.0 (answer n p e.call (refusal e.reply)).1) es
after_step n state e es p at =
    ap (λ m. after_entries n (with_page state e.page.0 (answer n m e.call (refusal e.reply)).1) es) at

abbrev just_mapped : Page
just_mapped = Some (new_page 1 Movable)

-- the states between the calls
abbrev first_state : PlainState
first_state = start_state 1 full_start

abbrev without_1 : PlainState
without_1 = with_page first_state 1 None

abbrev with_2 : PlainState
with_2 = with_page without_1 2 just_mapped

abbrev refused_state : PlainState
refused_state = with_page with_2 1 None

abbrev without_2 : PlainState
without_2 = with_page refused_state 2 None

pub full_legal : IsLegal 1 first_state history
full_legal =
    legal_step 1 0 first_state page_1_freed (drop 1 history) just_mapped (simp gets) refl refl
    (legal_step 1 1 without_1 page_2_mapped (drop 2 history) None (simp gets) refl refl
    (legal_step 1 2 with_2 alloc_refused (drop 3 history) None (simp gets) refl refl
    (legal_step 1 3 refused_state page_2_freed (drop 4 history) just_mapped (simp gets) refl refl
    (legal_step 1 4 without_2 page_1_mapped [] None (simp gets) refl refl tt))))

-- pages 0 and 1 are mapped again
same_pages : (page : ℕ) → page_at (with_page without_2 1 just_mapped) page ≡ page_at first_state page
same_pages zero = simp gets
same_pages (suc zero) = simp gets
same_pages (suc (suc zero)) = simp gets
same_pages (suc (suc (suc n))) =
    let first : (suc (suc (suc n)) == 1) ≡ false = grind (arith, nat_tests) in
    let second : (suc (suc (suc n)) == 2) ≡ false = grind (arith, nat_tests) in
    let past_first : nat_lt (suc (suc (suc n))) 1 ≡ false = grind (arith, nat_tests) in
    let past_second : nat_lt (suc (suc (suc n))) 2 ≡ false = grind (arith, nat_tests) in
    simp (gets, first, second, past_first, past_second)

left_at_end : after_entries 1 first_state history ≡ first_state
left_at_end =
    after_step 1 first_state page_1_freed (drop 1 history) just_mapped (simp gets)
    ∙ (after_step 1 without_1 page_2_mapped (drop 2 history) None (simp gets)
    ∙ (after_step 1 with_2 alloc_refused (drop 3 history) None (simp gets)
    ∙ (after_step 1 refused_state page_2_freed (drop 4 history) just_mapped (simp gets)
    ∙ (after_step 1 without_2 page_1_mapped [] None (simp gets)
    ∙ same_map nat_cmp_total nat_cmp-IsAntisymmetric _ _ same_pages))))

-- ---- the frames at the end

pub out_is : (frame : ℕ) (x : Out) → out_for (space_at_start full full_start) frame ≡ Some x → (frame < 2) × (record { page = frame; kind = Movable } ≡ x)
out_is zero x e = (omega arith, cc)
out_is (suc zero) x e = (omega arith, cc)
out_is (suc (suc n)) x e = absurd (none-some x e)

two_pages : (page : ℕ) (p : PlainPage) → page_at (start_state 1 full_start) page ≡ Some p → (page < 2) × (new_page 1 Movable ≡ p)
two_pages zero p e =
    let is : page_at (start_state 1 full_start) 0 ≡ just_mapped = simp gets in
    let same : just_mapped ≡ Some p = sym is ∙ e in (omega arith, cc)
two_pages (suc zero) p e =
    let is : page_at (start_state 1 full_start) 1 ≡ just_mapped = simp gets in
    let same : just_mapped ≡ Some p = sym is ∙ e in (omega arith, cc)
two_pages (suc (suc n)) p e =
    let first : (suc (suc n) == 0) ≡ false = grind (arith, nat_tests) in
    let second : (suc (suc n) == 1) ≡ false = grind (arith, nat_tests) in
    let past_first : nat_lt (suc (suc n)) 0 ≡ false = grind (arith, nat_tests) in
    let past_second : nat_lt (suc (suc n)) 1 ≡ false = grind (arith, nat_tests) in
    let is : page_at (start_state 1 full_start) (suc (suc n)) ≡ None = simp (gets, first, second, past_first, past_second) in
    absurd (none-some p (sym is ∙ e))

its_kind : (frame : ℕ) → frame < 2 → option_map (λ p. p.kind) (page_at (start_state 1 full_start) frame) ≡ Some Movable
its_kind zero l = simp gets
its_kind (suc zero) l = simp gets
its_kind (suc (suc n)) l = absurd (omega arith)

its_frame : (page : ℕ) → page < 2 → out_for (space_at_start full full_start) page ≡ Some (record { page = page; kind = Movable })
its_frame zero l = refl
its_frame (suc zero) l = refl
its_frame (suc (suc n)) l = absurd (omega arith)

pub full_out : AreOutForPages (space_at_start full full_start) (start_state 1 full_start)
full_out = record {
  out = λ frame x e.
      let is = out_is frame x e in
      subst (λ (y : Out). option_map (λ p. p.kind) (page_at (start_state 1 full_start) y.page) ≡ Some y.kind) is.1 (its_kind frame is.0);
  mapped = λ page p e.
      let is = two_pages page p e in
      (page, its_frame page is.0 ∙ ap (λ (m : PlainPage). Some (record { page = page; kind = m.kind })) is.1);
  once = λ frame other x y e f same.
      ap (λ (z : Out). z.page) (out_is frame x e).1 ∙ same ∙ sym (ap (λ (z : Out). z.page) (out_is other y f).1);
}

pub out_at_end : AreOutForPages (space_after full Movable (space_at_start full full_start) journal_of_full) (after_entries 1 first_state history)
out_at_end =
    subst (λ pages. AreOutForPages (space_after full Movable (space_at_start full full_start) journal_of_full) pages) (sym left_at_end) full_out

pub page_without_frame : (page : ℕ) (kind : Kind) → 2 ≤ page → (frame : ℕ) × (out_for (space_at_start full full_start) frame ≡ Some (record { page = page; kind = kind })) → ⊥
page_without_frame page kind l (frame, e) =
    let is = out_is frame (record { page = page; kind = kind }) e in
    let same : frame ≡ page = ap (λ (z : Out). z.page) is.1 in omega (arith, is.0)

-- ---- the blocks at the end

pub last_unplugged : AreUnplugged small (space_at_start small []) (map (λ b. record { 0 = b }) (0 ∷ 1 ∷ 2 ∷ []))
last_unplugged zero = refl
last_unplugged (suc zero) = refl
last_unplugged (suc (suc zero)) = refl
last_unplugged (suc (suc (suc zero))) = refl
last_unplugged (suc (suc (suc (suc n)))) =
    let other : (suc (suc (suc (suc n))) == 3) ≡ false = grind (arith, nat_tests) in
    let past : nat_lt (suc (suc (suc (suc n)))) 4 ≡ false = grind (arith, nat_tests) in
    rw (other, past) refl
