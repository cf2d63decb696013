-- Causes of a small machine's failed evacuations that are true, and some that aren't.
use Rattle.std.proofs.Common.{◌≡◌, ℕ, zero, suc, ◌+◌, ◌<◌, ◌≤◌, true, false, List, [], ◌∷◌, ◌++◌, length, replicate, get_or, refl, sym, ap, ◌∙◌, subst, arith, inl, inr, None, Some}
use Rattle.std.proofs.lemmas.Option.{same_Some}
use Rattle.std.specs.FinMap.{gets}
use Rattle.std.specs.Prelude.{slice_get}
use Rattle.evac_model.specs.declared.entry.Entry.{Entry}
use Rattle.evac_model.specs.declared.names.FrameNo.{FrameNo}
use Rattle.evac_model.specs.declared.names.Kind.{Kind}
use Rattle.evac_model.specs.declared.names.Kind.TheVariants.{Movable, Unmovable}
use Rattle.evac_model.specs.declared.names.PageNo.{PageNo}
use Rattle.evac_model.specs.declared.space.SpaceAction.{SpaceAction}
use Rattle.evac_model.specs.declared.space.SpaceAction.TheVariants.{MoveLease, Return}
use Rattle.evac_model.specs.Numbers.{is_in}
use Rattle.evac_model.specs.Page.{Page, PlainPage, new_page}
use Rattle.evac_model.specs.PairingExamples.{full}
use Rattle.evac_model.specs.SpaceJournal.{Out, IsLeasable, out_for}
use Rattle.evac_model.specs.State.{PlainState, page_at, start_state}
use Rattle.core_state.specs.NoticedHistory.{ShowsPage}
use Rattle.evacuate.specs.Examples.{frame_no, page_no}
use Rattle.evacuate.specs.Tale.{nothing_tried}
use Rattle.host_work.specs.Evacuated.{end_by, WasEvacuated}
use Rattle.host_work.specs.Examples.{plugged_machine, isolate, undo, attempt, pinned, no_target, busy, unmovable}
use Rattle.host_work.specs.FoundWords.{page_before}
use Rattle.host_work.specs.Requests.{block_no}
use Rattle.host_work.specs.Truth.{SpaceRun, stood, driver_did, targets_in, WasTriedAt, WasFoundAt, AreFoundFrom, IsCauseTrue}
use Rattle.host_work.specs.TruthExamples.{start_with, run_with, pin_and_unpin, word_of_calls, first_take, one_attempt, five_attempts, not_leased, block_3_emptied, IsTrueBy, run_of_two, full_actions, full_run, no_target_in_full, pinned_by, busy_by, taken_at_first, taken_behind_pin, taken_behind_all, pinned_behind_pin, pinned_at_first, pinned_in_21}

-- ---- the words

abbrev first : PlainState
first = start_state 2 (start_with Unmovable)

abbrev once_pinned : PlainPage
once_pinned = record (new_page 2 Movable) { pins = 1 }

at_first : page_at first 0 ≡ Some (new_page 2 Movable)
at_first = simp gets

behind_pin : page_before plugged_machine first pin_and_unpin (page_no 0) 1073762324 ≡ Some once_pinned
behind_pin = rw at_first (simp gets)

-- the page is pinned by the first call, and the word has its bound
pub pinned_word : word_of_calls 0 (page_no 0) 1073762324
pinned_word = record {
  in_range = omega arith;
  bound_is = inr (record { place = 0; entry = _; at = refl; on = refl; next = refl });
  bound_low = omega arith;
  free = λ free. subst (λ (m : Page). ShowsPage 1073762324 m) (sym behind_pin) (record { still = refl; flags = (refl, refl, refl) });
  taken = λ taken. absurd (omega (arith, taken));
}

-- the word was taken for either of the calls
pub taken_word : word_of_calls 0 (page_no 0) taken_at_first
taken_word = record {
  in_range = omega arith;
  bound_is = inl refl;
  bound_low = omega arith;
  free = λ free. absurd (omega (arith, free));
  taken = λ taken. record { place = 0; entry = _; at = refl; on = refl; late = omega arith };
}

none_so_late : (place : ℕ) (e : Entry) → slice_get pin_and_unpin place ≡ Some e → ¬ (2 ≤ e.ticket)
none_so_late zero e at late = let is : 0 ≡ e.ticket = cc in absurd (omega (arith, is, late))
none_so_late (suc zero) e at late = let is : 1 ≡ e.ticket = cc in absurd (omega (arith, is, late))
none_so_late (suc (suc n)) e at late = absurd (cc)

pub no_call_behind : ¬ word_of_calls 0 (page_no 0) taken_behind_all
no_call_behind h = let since = h.taken refl in none_so_late since.place since.entry since.at since.late

pub pin_of_none : ¬ word_of_calls 0 (page_no 0) pinned_at_first
pin_of_none h =
    let shows : ShowsPage pinned_at_first (Some (new_page 2 Movable)) = subst (λ (m : Page). ShowsPage pinned_at_first m) at_first (h.free refl) in
    let pins : 1 ≡ 0 = shows.flags.2 in
    absurd (omega (arith, pins))

none_of_page_1 : (place : ℕ) (e : Entry) → slice_get pin_and_unpin place ≡ Some e → ¬ (e.page.0 ≡ 1)
none_of_page_1 zero e at on = let is : 0 ≡ e.page.0 = ap (λ (x : Entry). x.page.0) (same_Some _ e at) in absurd (omega (arith, is, on))
none_of_page_1 (suc zero) e at on = let is : 0 ≡ e.page.0 = ap (λ (x : Entry). x.page.0) (same_Some _ e at) in absurd (omega (arith, is, on))
none_of_page_1 (suc (suc n)) e at on = absurd (cc)

pub another_page : ¬ word_of_calls 0 (page_no 1) pinned_behind_pin
another_page h = elim h.bound_is [
  | inl none ↦ absurd (omega (arith, none))
  | inr by ↦ none_of_page_1 by.place by.entry by.at by.on
]

-- ---- true causes

-- the target was leased right behind the isolation, whatever the journal has behind the evacuation
pub tried_first : (more : List SpaceAction) → WasTriedAt (run_with Unmovable (one_attempt ++ more)) [] (block_no 3) one_attempt (frame_no 20) (page_no 0) (frame_no 0) 1
tried_first more = record {
  was_out = record { inside = omega arith; part = isolate 3 ∷ []; rest = attempt 0 ++ undo 3 ∷ []; parts = refl; done = refl; isolated = refl; out = refl };
  more = Return 0 (frame_no 0) ∷ undo 3 ∷ [];
  next = refl;
  leased = refl;
}

pub was_pinned : IsTrueBy one_attempt pinned
was_pinned = record {
  in_block = refl;
  holds = record { place = 1; found = record { target = frame_no 0; tried = tried_first []; found = pinned_word }; pinned = refl };
}

-- the same attempt of the first evacuation, whose take is the first
pub first_found : IsCauseTrue (run_with Unmovable (one_attempt ++ one_attempt)) first_take [] (block_no 3) one_attempt pinned
first_found = record {
  in_block = refl;
  holds = record { place = 1; found = record { target = frame_no 0; tried = tried_first one_attempt; found = refl }; pinned = refl };
}

-- ---- five attempts

abbrev in_20 : Out
in_20 = record { page = 0; kind = Movable }

abbrev pub five_run : SpaceRun
five_run = run_with Unmovable five_attempts

-- so many attempts
abbrev attempts : ℕ → List SpaceAction
attempts zero = []
attempts (suc n) = attempt 0 ++ attempts n

-- a target was leased for page 0 at a place of the journal of five attempts
abbrev pub IsTriedInFive : ℕ → Type 0
IsTriedInFive place = WasTriedAt five_run [] (block_no 3) five_attempts (frame_no 20) (page_no 0) (frame_no 0) place

-- with these actions before it and these behind it
tried_with : (place : ℕ) (part behind : List SpaceAction) → place ≤ length five_attempts
    → five_attempts ≡ part ++ (attempt 0 ++ behind)
    → driver_did five_run place ≡ part
    → is_in 3 (stood five_run place).isolated ≡ true
    → out_for (stood five_run place) 20 ≡ Some in_20
    → slice_get five_attempts place ≡ Some (MoveLease (frame_no 0) (page_no 0))
    → IsTriedInFive place
tried_with place part behind inside parts done isolated out leased = record {
  was_out = record { inside = inside; part = part; rest = attempt 0 ++ behind; parts = parts; done = done; isolated = isolated; out = out };
  more = Return 0 (frame_no 0) ∷ behind;
  next = refl;
  leased = leased;
}

-- the attempt of that number
pub tried_in_five : (n : ℕ) → n < 5 → IsTriedInFive (suc (n + n))
tried_in_five zero l = tried_with 1 (isolate 3 ∷ attempts 0) (attempts 4 ++ undo 3 ∷ []) (omega arith) refl refl refl refl refl
tried_in_five (suc zero) l = tried_with 3 (isolate 3 ∷ attempts 1) (attempts 3 ++ undo 3 ∷ []) (omega arith) refl refl refl refl refl
tried_in_five (suc (suc zero)) l = tried_with 5 (isolate 3 ∷ attempts 2) (attempts 2 ++ undo 3 ∷ []) (omega arith) refl refl refl refl refl
tried_in_five (suc (suc (suc zero))) l = tried_with 7 (isolate 3 ∷ attempts 3) (attempts 1 ++ undo 3 ∷ []) (omega arith) refl refl refl refl refl
tried_in_five (suc (suc (suc (suc zero)))) l = tried_with 9 (isolate 3 ∷ attempts 4) (attempts 0 ++ undo 3 ∷ []) (omega arith) refl refl refl refl refl
tried_in_five (suc (suc (suc (suc (suc n))))) l = absurd (omega (arith, l))

-- it found the word
found_in_five : (n : ℕ) → n < 5 → WasFoundAt five_run word_of_calls [] (block_no 3) five_attempts (frame_no 20) (page_no 0) taken_at_first (suc (n + n))
found_in_five n l = record { target = frame_no 0; tried = tried_in_five n l; found = taken_word }

-- the five words, each of an attempt of its own, behind the one before
five_found : AreFoundFrom five_run word_of_calls [] (block_no 3) five_attempts (frame_no 20) (page_no 0) 0 (replicate 5 taken_at_first)
five_found = (
  1,
  omega arith,
  found_in_five 0 (omega arith),
  refl,
  (
    3,
    omega arith,
    found_in_five 1 (omega arith),
    refl,
    (
      5,
      omega arith,
      found_in_five 2 (omega arith),
      refl,
      (7, omega arith, found_in_five 3 (omega arith), refl, (9, omega arith, found_in_five 4 (omega arith), refl, tt)),
    ),
  ),
)

-- all have the bound 0
level : (i d : ℕ) → i < 5 → get_or (replicate 5 0) i d ≡ 0
level zero d l = refl
level (suc zero) d l = refl
level (suc (suc zero)) d l = refl
level (suc (suc (suc zero))) d l = refl
level (suc (suc (suc (suc zero)))) d l = refl
level (suc (suc (suc (suc (suc n))))) d l = absurd (omega (arith, l))

pub was_busy : IsTrueBy five_attempts busy
was_busy = record {
  in_block = refl;
  holds = record {
    five = refl;
    found = five_found;
    rising = λ i j d up low. omega (arith, level i d (omega (arith, up, low)), level j d low);
  };
}

-- behind the actions that emptied block 3
pub was_unmovable : IsCauseTrue (run_of_two Unmovable) word_of_calls block_3_emptied (block_no 2) [] unmovable
was_unmovable = record { in_block = refl; holds = record { place = 4; inside = omega arith; done = refl; out = refl } }

-- frame 0 has page 0, and frame 1 page 1
none_free_in_full : (free : ℕ) → ¬ IsLeasable full Movable (stood full_run 1) Movable free
none_free_in_full zero l = let e = l.not_out in cc
none_free_in_full (suc zero) l = let e = l.not_out in cc
none_free_in_full (suc (suc n)) l = omega (arith, l.there)

pub had_no_target : IsCauseTrue full_run word_of_calls [] (block_no 0) full_actions (no_target_in_full 1)
had_no_target = record {
  in_block = refl;
  holds = record {
    was_out = record { inside = omega arith; part = isolate 0 ∷ []; rest = undo 0 ∷ []; parts = refl; done = refl; isolated = refl; out = refl };
    none_free = none_free_in_full;
  };
}

abbrev pub without_target_in_full : WasEvacuated full (block_no 0) (Some (no_target_in_full 1)) full_actions
without_target_in_full = record {
  evacuation = record { sizes = full; block = block_no 0; stage = end_by (Some (no_target_in_full 1)); round = 0; busy = None; words = replicate 5 0 ∷ [] };
  tale = nothing_tried;
  sizes = refl;
  block = refl;
  ended = refl;
  goes_by = record {
    frames = omega arith;
    places = (refl, tt);
    few = omega arith;
    counted = refl;
    rounds = tt;
    in_order = tt;
    busy_before = tt;
    stands = record { in_block = refl; found = record { after = None; told = (1, omega arith, refl); at_once = tt } };
  };
  made = refl;
}

-- ---- causes that aren't true

-- frame 21 was out at no place
pub not_out_in_21 : (place : ℕ) → place ≤ 4 → out_for (stood (run_with Unmovable one_attempt) place) 21 ≡ None
not_out_in_21 zero l = refl
not_out_in_21 (suc zero) l = refl
not_out_in_21 (suc (suc zero)) l = refl
not_out_in_21 (suc (suc (suc zero))) l = refl
not_out_in_21 (suc (suc (suc (suc zero)))) l = refl
not_out_in_21 (suc (suc (suc (suc (suc n))))) l = absurd (omega (arith, l))

pub another_frame : ¬ IsTrueBy one_attempt (pinned_by 21 pinned_in_21)
another_frame h =
    let at = h.holds.found.tried.was_out in
    let out : None ≡ Some _ = sym (not_out_in_21 h.holds.place at.inside) ∙ at.out in
    cc

pub another_block : ¬ IsCauseTrue (run_with Unmovable one_attempt) word_of_calls [] (block_no 2) one_attempt pinned
another_block h = let inside : false ≡ true = h.in_block in absurd (cc)

pub pinned_by_none : ¬ IsTrueBy one_attempt (pinned_by 20 pinned_at_first)
pinned_by_none h = pin_of_none h.holds.found.found

pub busy_for_none : ¬ IsTrueBy five_attempts (busy_by (replicate 4 taken_at_first ++ taken_behind_all ∷ []))
busy_for_none h = no_call_behind h.holds.found.4.4.4.4.2.found

pub four : ¬ IsTrueBy five_attempts (busy_by (replicate 4 taken_at_first))
four h = let five : 4 ≡ 5 = h.holds.five in absurd (omega (arith, five))

pub falling : ¬ IsTrueBy five_attempts (busy_by (taken_behind_pin ∷ replicate 4 taken_at_first))
falling h = let rising : 1 ≤ 0 = h.holds.rising 0 1 0 (omega arith) (omega arith) in absurd (omega (arith, rising))

-- page 7 was out as a movable page at each place
movable_at_all : (place : ℕ) → place ≤ 5 → out_for (stood (run_of_two Movable) place) 16 ≡ Some (record { page = 7; kind = Movable })
movable_at_all zero l = refl
movable_at_all (suc zero) l = refl
movable_at_all (suc (suc zero)) l = refl
movable_at_all (suc (suc (suc zero))) l = refl
movable_at_all (suc (suc (suc (suc zero)))) l = refl
movable_at_all (suc (suc (suc (suc (suc zero))))) l = refl
movable_at_all (suc (suc (suc (suc (suc (suc n)))))) l = absurd (omega (arith, l))

abbrev page_7 : Kind → Out
page_7 kind = record { page = 7; kind = kind }

other_kind : ¬ (page_7 Movable ≡ page_7 Unmovable)
other_kind is = let kinds : Movable ≡ Unmovable = ap (λ (x : Out). x.kind) is in absurd (cc)

pub was_movable : ¬ IsCauseTrue (run_of_two Movable) word_of_calls block_3_emptied (block_no 2) [] unmovable
was_movable h =
    other_kind (same_Some (page_7 Movable) (page_7 Unmovable) (sym (movable_at_all h.holds.place h.holds.inside) ∙ h.holds.out))

pub frame_was_free : ¬ IsTrueBy not_leased no_target
frame_was_free h = h.holds.none_free 0 (record { there = omega arith; fitting = refl; not_out = refl; not_isolated = refl })

-- the block is no more isolated there
pub was_undone : ¬ IsCauseTrue full_run word_of_calls [] (block_no 0) full_actions (no_target_in_full 2)
was_undone h = let isolated : false ≡ true = h.holds.was_out.isolated in absurd (cc)

pub past_all : ¬ IsCauseTrue full_run word_of_calls [] (block_no 0) full_actions (no_target_in_full 3)
past_all h = absurd (omega (arith, h.holds.was_out.inside))

-- nor is it isolated there yet
pub not_begun : ¬ IsCauseTrue full_run word_of_calls [] (block_no 0) full_actions (no_target_in_full 0)
not_begun h = let isolated : false ≡ true = h.holds.was_out.isolated in absurd (cc)

-- the driver had done less there than before the evacuation
pub too_early : ¬ IsCauseTrue (run_with Unmovable (one_attempt ++ not_leased)) word_of_calls one_attempt (block_no 3) not_leased no_target
too_early h =
    let done = ap (λ (l : List SpaceAction). length l) h.holds.was_out.done in
    absurd (omega (arith, done))

-- no target was leased
none_leased : (place : ℕ) (target : FrameNo) (page : PageNo) → ¬ (slice_get not_leased place ≡ Some (MoveLease target page))
none_leased zero target page is = absurd (cc)
none_leased (suc zero) target page is = absurd (cc)
none_leased (suc (suc n)) target page is = absurd (cc)

pub not_tried : ¬ IsTrueBy not_leased pinned
not_tried h = none_leased h.holds.place h.holds.found.target (page_no 0) h.holds.found.tried.leased

-- a target was leased at one place alone
pub leased_once : (place : ℕ) (target : FrameNo) (page : PageNo) → slice_get one_attempt place ≡ Some (MoveLease target page) → place ≡ 1
leased_once zero target page is = absurd (cc)
leased_once (suc zero) target page is = refl
leased_once (suc (suc zero)) target page is = absurd (cc)
leased_once (suc (suc (suc zero))) target page is = absurd (cc)
leased_once (suc (suc (suc (suc n)))) target page is = absurd (cc)

pub one_word : ¬ IsTrueBy one_attempt busy
one_word h =
    let first = h.holds.found in
    let second = first.4 in
    let first_place : first.0 ≡ 1 = leased_once first.0 first.2.target (page_no 0) first.2.tried.leased in
    let second_place : second.0 ≡ 1 = leased_once second.0 second.2.target (page_no 0) second.2.tried.leased in
    absurd (omega (arith, first_place, second_place, second.1))

-- the first evacuation had leased a target
pub second_not_found : ¬ IsCauseTrue (run_with Unmovable (one_attempt ++ one_attempt)) first_take one_attempt (block_no 3) one_attempt pinned
second_not_found h =
    let at = h.holds.found.tried.was_out in
    let number : suc (targets_in at.part) ≡ 0 = sym (ap (λ (l : List SpaceAction). targets_in l) at.done) ∙ h.holds.found.found in
    absurd (omega (arith, number))
