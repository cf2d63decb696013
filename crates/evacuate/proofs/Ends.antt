-- The ends of an evacuation, and how long it is.
use Rattle.std.proofs.Common.{◌≡◌, ℕ, ◌+◌, ◌*◌, ◌≤◌, List, [], ◌∷◌, ◌++◌, length, None, refl, subst, length-append, arith}
use Rattle.std.specs.List.{AllByRecursion}
use Rattle.evac_model.specs.declared.names.BlockNo.{BlockNo}
use Rattle.evac_model.specs.declared.evacuation.EvacCause.{EvacCause}
use Rattle.evac_model.specs.declared.evacuation.EvacCause.TheVariants as cause
use Rattle.evac_model.specs.Geometry.{Sizes, first_frame}
use Rattle.evacuate.specs.declared.action.EvacAction.TheVariants as action
use Rattle.evacuate.specs.declared.stage.Attempt.{Attempt}
use Rattle.evacuate.specs.declared.stage.Stage.{Stage}
use Rattle.evacuate.specs.declared.stage.Stage.TheVariants.{Isolating, Leasing, Moving, Returning, Undoing, Emptied, Failed}
use Rattle.evacuate.specs.Tale.{Exchange, Tale, last_frame, attempt_log, attempts_log, rounds_log, round_end, tale_log, AreInOrder, IsRound}
use Rattle.evacuate.specs.Evacuating.{Evacuating, action_at, action_of}
use Rattle.evacuate.specs.UnderWay.{led_to, log_at, log_of, Stands, GoesBy, HasEmptied, HasFailed}
use Rattle.evacuate.proofs.Frames.{inside_block, next_in_block, next_behind}

-- ---- ends

emptied_at : (st : Evacuating) (tale : Tale) (stage : Stage) → action_at st.block stage ≡ action.Emptied → Stands st tale stage → HasEmptied st.block tale (log_at st.block tale stage)
emptied_at st tale Isolating e s = cc
emptied_at st tale (Leasing after) e s = cc
emptied_at st tale (Moving lease) e s = cc
emptied_at st tale (Returning a) e s = cc
emptied_at st tale (Undoing why) e s = cc
emptied_at st tale Emptied e s = record { moved = s; whole = refl }
emptied_at st tale (Failed why) e s = cc

pub has_emptied : (st : Evacuating) (tale : Tale) → action_of st ≡ action.Emptied → GoesBy st tale → HasEmptied st.block tale (log_of st tale)
has_emptied st tale e g = emptied_at st tale st.stage e g.stands

failed_at : (st : Evacuating) (tale : Tale) (stage : Stage) (why : EvacCause) → action_at st.block stage ≡ action.Failed why → Stands st tale stage → HasFailed st.sizes st.block tale (log_at st.block tale stage) why
failed_at st tale Isolating why e s = cc
failed_at st tale (Leasing after) why e s = cc
failed_at st tale (Moving lease) why e s = cc
failed_at st tale (Returning a) why e s = cc
failed_at st tale (Undoing other) why e s = cc
failed_at st tale Emptied why e s = cc
failed_at st tale (Failed met) why e s =
    let same : met ≡ why = cc in
    subst (λ (c : EvacCause). HasFailed st.sizes st.block tale (log_at st.block tale (Failed met)) c) same (record { met = s; whole = refl })

pub has_failed : (st : Evacuating) (tale : Tale) (why : EvacCause) → action_of st ≡ action.Failed why → GoesBy st tale → HasFailed st.sizes st.block tale (log_of st tale) why
has_failed st tale why e g = failed_at st tale st.stage why e g.stands

-- ---- lengths

-- the frames of a round rise from the block's first
order_length : (s : Sizes) (b : BlockNo) (a : Attempt) (attempts : List Attempt) → AreInOrder s b (a ∷ attempts) → first_frame s b.0 + length (a ∷ attempts) ≤ a.lease.from.0 + 1
order_length s b a [] order =
    let from = (inside_block s b a.lease.from.0 (next_in_block s b None a.lease.from.0 order.0)).from in omega arith
order_length s b a (x ∷ attempts) order =
    let behind = next_behind s b x.lease.from a.lease.from.0 order.0 in
    let older = order_length s b x attempts order.1 in omega arith

-- a round has an attempt for each frame of the block at most
pub round_length : (s : Sizes) (b : BlockNo) (attempts : List Attempt) → AreInOrder s b attempts → length attempts ≤ s.block
round_length s b [] order = omega arith
round_length s b (a ∷ attempts) order =
    let below = (inside_block s b a.lease.from.0 (next_in_block s b (last_frame attempts) a.lease.from.0 order.0)).below in
    let long = order_length s b a attempts order in omega arith

attempts_log-length : (b : BlockNo) (attempts : List Attempt) → length (attempts_log b attempts) ≡ 3 * length attempts
attempts_log-length b [] = refl
attempts_log-length b (a ∷ attempts) =
    let older = attempts_log-length b attempts in
    let both = length-append (attempts_log b attempts) (attempt_log b (last_frame attempts) a) in omega arith

rounds_log-length : (s : Sizes) (b : BlockNo) (rounds : List (List Attempt)) → AllByRecursion (IsRound s b) rounds → length (rounds_log b rounds) ≤ length rounds * (3 * s.block + 1)
rounds_log-length s b [] all = omega arith
rounds_log-length s b (r ∷ rounds) all =
    let older = rounds_log-length s b rounds all.1 in
    let here = attempts_log-length b r in
    let few = round_length s b r all.0.in_order in
    let both = length-append (rounds_log b rounds) (attempts_log b r ++ round_end b r ∷ []) in
    let end = length-append (attempts_log b r) (round_end b r ∷ []) in omega arith

four_at_most : (n k : ℕ) → n ≤ 4 → n * k ≤ 4 * k
four_at_most n k h = grind arith

tale_log-length : (st : Evacuating) (tale : Tale) → GoesBy st tale → length (tale_log st.block tale) ≤ 15 * st.sizes.block + 5
tale_log-length st tale g =
    let few = round_length st.sizes st.block tale.attempts g.in_order in
    let here = attempts_log-length st.block tale.attempts in
    let rounds = rounds_log-length st.sizes st.block tale.rounds g.rounds in
    let most = four_at_most (length tale.rounds) (3 * st.sizes.block + 1) g.few in
    let both = length-append (rounds_log st.block tale.rounds) (attempts_log st.block tale.attempts) in omega arith

led_to-length : (b : BlockNo) (tale : Tale) (why : EvacCause) → length (led_to b tale why) ≤ 1
led_to-length b tale (cause.Unmovable frame page) = omega arith
led_to-length b tale (cause.Pinned frame page word) = omega arith
led_to-length b tale (cause.NoTarget frame page at) = omega arith
led_to-length b tale (cause.Busy frame page words) = omega arith

-- a log with so few behind the tale's
longer : (xs ys : List Exchange) (n k : ℕ) → length xs ≤ n → length ys ≤ k → length (xs ++ ys) ≤ n + k
longer xs ys n k h l = omega (arith, length-append xs ys)

undone_length : (xs ys zs : List Exchange) (n : ℕ) → length xs ≤ n → length ys ≤ 1 → length zs ≤ 1 → length ((xs ++ ys) ++ zs) ≤ n + 2
undone_length xs ys zs n h l m = omega (arith, length-append xs ys, length-append (xs ++ ys) zs)

failed_length : (b : BlockNo) (tale : Tale) (n : ℕ) (why : EvacCause) → length (tale_log b tale) ≤ n → length (log_at b tale (Failed why)) ≤ n + 2
failed_length b tale n (cause.Unmovable frame page) h = omega arith
failed_length b tale n (cause.Pinned frame page word) h = undone_length (tale_log b tale) (led_to b tale (cause.Pinned frame page word)) _ n h (omega arith) (omega arith)
failed_length b tale n (cause.NoTarget frame page at) h = undone_length (tale_log b tale) (led_to b tale (cause.NoTarget frame page at)) _ n h (omega arith) (omega arith)
failed_length b tale n (cause.Busy frame page words) h = undone_length (tale_log b tale) (led_to b tale (cause.Busy frame page words)) _ n h (omega arith) (omega arith)

log_at-length : (b : BlockNo) (tale : Tale) (n : ℕ) (stage : Stage) → length (tale_log b tale) ≤ n → length (log_at b tale stage) ≤ n + 2
log_at-length b tale n Isolating h = omega arith
log_at-length b tale n (Leasing after) h = omega arith
log_at-length b tale n (Moving lease) h = longer (tale_log b tale) _ n 2 h (omega arith)
log_at-length b tale n (Returning a) h = longer (tale_log b tale) _ n 2 h (omega arith)
log_at-length b tale n (Undoing why) h =
    let led = led_to-length b tale why in longer (tale_log b tale) (led_to b tale why) n 2 h (omega arith)
log_at-length b tale n Emptied h = longer (tale_log b tale) _ n 2 h (omega arith)
log_at-length b tale n (Failed why) h = failed_length b tale n why h

pub log_length : (st : Evacuating) (tale : Tale) → GoesBy st tale → length (log_of st tale) ≤ 15 * st.sizes.block + 7
log_length st tale g =
    let long = log_at-length st.block tale (15 * st.sizes.block + 5) st.stage (tale_log-length st tale g) in omega arith
