-- What an action adds to the frame space's journal and to the words that the driver's takes found. Both only grow, and so all that was
-- true of them stays true.
use Rattle.std.specs.Prelude.{⊤}
use Rattle.std.proofs.Common.{◌≡◌, ℕ, suc, ◌+◌, ◌<◌, ◌≤◌, ◌==◌, cond, Bool, true, false, List, [], ◌∷◌, ◌++◌, length, length-append, append-nil, ne_eqb, refl, sym, ap, ◌∙◌, subst, arith, Option, Some, None}
use Rattle.std.specs.List.{slice_get}
use Rattle.evac_model.specs.declared.evacuation.MoveLease.{MoveLease}
use Rattle.evac_model.specs.declared.names.BlockNo.{BlockNo}
use Rattle.evac_model.specs.declared.names.FrameNo.{FrameNo}
use Rattle.evac_model.specs.declared.names.Kind.{Kind}
use Rattle.evac_model.specs.declared.names.Kind.TheVariants.{Movable}
use Rattle.evac_model.specs.declared.names.PageNo.{PageNo}
use Rattle.evac_model.specs.declared.space.SpaceAction.{SpaceAction}
use Rattle.evac_model.specs.declared.space.SpaceAction.TheVariants as space
use Rattle.evac_model.specs.Pairing.{actions_of}
use Rattle.evac_model.specs.SpaceJournal.{Leased, lease_of}
use Rattle.evac_model.proofs.Lists.{all_weaker}
use Rattle.evac_words.specs.Word.{bound_of}
use Rattle.core_state.specs.declared.keeper.Keeper.TheVariants.{OneOwner}
use Rattle.core_state.specs.declared.noticed.Notice.{Notice}
use Rattle.core_state.specs.declared.step.MoveStep.{MoveStep}
use Rattle.core_state.specs.declared.step.MoveStep.TheVariants.{Moving, Remap, Map, Unmap}
use Rattle.core_state.specs.declared.step.Step.{Step}
use Rattle.core_state.specs.declared.step.Step.TheVariants.{Take, Draw, Load, Store, Mark, Release}
use Rattle.core_state.specs.declared.view.View.{View}
use Rattle.core_state.specs.MoveSteps.{view_after_move}
use Rattle.core_state.specs.Stepped.{word_found}
use Rattle.core_state.specs.Steps.{notice_of, view_after}
use Rattle.core_state.specs.Views.{right_to}
use Rattle.core_state.proofs.Lists.{at_longer, at_last}
use Rattle.evacuate.specs.declared.stage.Attempt.{Attempt}
use Rattle.evacuate.specs.declared.stage.Stage.{Stage}
use Rattle.evacuate.specs.declared.stage.Stage.TheVariants as stages
use Rattle.evacuate.specs.Evacuating.{Evacuating}
use Rattle.evacuate.specs.Tale.{Tale}
use Rattle.host_work.specs.Truth.{SpaceRun, targets_in, take_number_at, Finds, IsNotAbove, AreNotAbove, AreTrueRounds}
use Rattle.space.specs.Refusals.{first_unmovable, next_out}
use Rattle.machine.specs.declared.action.Action.{Action}
use Rattle.machine.specs.declared.action.Action.TheVariants as actions
use Rattle.machine.specs.declared.action.BlockCall.{BlockCall}
use Rattle.machine.specs.declared.action.BlockCall.TheVariants.{Isolate, Target, Undo, Offline, Online}
use Rattle.machine.specs.declared.action.DeviceCall.TheVariants.{Request, Config}
use Rattle.machine.specs.declared.action.SpaceCall.TheVariants.{Lease, Return}
use Rattle.machine.specs.Consistent.{IsSetting, IsConsistent}
use Rattle.machine.specs.Made.{lease_made, isolate_made, target_made, block_made, made}
use Rattle.machine.specs.MayMake.{MayMake}
use Rattle.machine.specs.World.{Setting, World, IsOwnerSeat, space_now}
use Rattle.machine.proofs.Elsewhere.{driver_stays, driver_changes_hand}
use Rattle.core_actors.specs.declared.host_place.MovePlace.{MovePlace}
use Rattle.core_actors.specs.declared.host_place.MovePlace.TheVariants as moves
use Rattle.core_actors.specs.HostFound.{space_run, takes_of, DriverFound, evacuation_did, IsTrueAt, HasToldTrue, IsTrueMove}
use Rattle.core_actors.specs.HostSeat.{IsDriver}
use Rattle.core_actors.proofs.HostRoundsTrue.{longer_adds, take_adds, behind_adds, end_adds, tried_adds, attempt_adds, rounds_adds, IsMadeIn, all_made}
use Rattle.core_actors.proofs.HostTruths.{Adds}
use Rattle.core_actors.proofs.HostViews.{driver_of, driver_there, driver_stepped, driver_moved}

-- ---- the journal

-- the one world's journal begins with the other's
abbrev GoesOnFrom : (w x : World) → Type 0
GoesOnFrom w x = (more : List SpaceAction) × (x.space ≡ w.space ++ more)

same_journal : (w : World) → GoesOnFrom w w
same_journal w = ([], sym (append-nil w.space))

lease_journal : (c : Setting) (seat : ℕ) (w : World) (page : PageNo) (kind : Kind) (l : Option Leased) → GoesOnFrom w (lease_made c seat w page kind l).world
lease_journal c seat w page kind None = same_journal w
lease_journal c seat w page kind (Some l) = (space.Lease seat (record { 0 = l.frame }) page kind ∷ [], refl)

isolate_journal : (w : World) (block : BlockNo) (unmovable : Option (FrameNo × PageNo)) → GoesOnFrom w (isolate_made w block unmovable).world
isolate_journal w block None = (space.Isolate block ∷ [], refl)
isolate_journal w block (Some at) = same_journal w

target_journal : (c : Setting) (w : World) (next : Option (FrameNo × PageNo)) (l : Option Leased) → GoesOnFrom w (target_made c w next l).world
target_journal c w None l = same_journal w
target_journal c w (Some at) None = same_journal w
target_journal c w (Some at) (Some l) = (space.MoveLease (record { 0 = l.frame }) at.1 ∷ [], refl)

block_journal : (c : Setting) (w : World) (call : BlockCall) → GoesOnFrom w (block_made c w call).world
block_journal c w (Isolate block) = isolate_journal w block (first_unmovable c.sizes (space_now c w) block.0)
block_journal c w (Target block after) = target_journal c w (next_out c.sizes (space_now c w) block.0 after) (lease_of c.sizes c.online (space_now c w) 0 Movable)
block_journal c w (Undo block) = (space.Undo block ∷ [], refl)
block_journal c w (Offline block) = (space.Offline block ∷ [], refl)
block_journal c w (Online block) = (space.Online block ∷ [], refl)

-- an action of any seat makes at most one action of the frame space
action_journal : (c : Setting) (seat : ℕ) (w : World) (action : Action) → GoesOnFrom w (made c seat w action).world
action_journal c seat w (actions.Step step) = same_journal w
action_journal c seat w (actions.Move step) = same_journal w
action_journal c seat w (actions.Space (Lease page kind)) = lease_journal c seat w page kind (lease_of c.sizes c.online (space_now c w) seat kind)
action_journal c seat w (actions.Space (Return frame)) = (space.Return seat frame ∷ [], refl)
action_journal c seat w (actions.Block call) = block_journal c w call
action_journal c seat w (actions.Device (Request bytes)) = same_journal w
action_journal c seat w (actions.Device Config) = same_journal w
action_journal c seat w actions.Ended = same_journal w

-- ---- the takes and the words that they found

-- the action takes a page
abbrev pub IsTake : Action → Type 0
IsTake (actions.Step (Take page)) = ⊤
IsTake _ = ⊥

-- other steps note no take, and nor does a step of a move
step_takes : (v : View) (step : Step) (found : ℕ) → ¬ IsTake (actions.Step step) → (view_after OneOwner v step found).noticed.by_right ≡ v.noticed.by_right
step_takes v (Take page) found not_take = absurd (not_take tt)
step_takes v Draw found not_take = refl
step_takes v (Load cell) found not_take = refl
step_takes v (Store frame cell value) found not_take = refl
step_takes v (Mark frame) found not_take = refl
step_takes v (Release None) found not_take = refl
step_takes v (Release (Some end)) found not_take = refl

move_takes : (v : View) (step : MoveStep) → (view_after_move OneOwner v step).noticed.by_right ≡ v.noticed.by_right
move_takes v Moving = refl
move_takes v (Remap frame) = refl
move_takes v (Map frame kind) = refl
move_takes v Unmap = refl

-- the takes in the driver's view
abbrev takes_in : View → List Notice
takes_in v = v.noticed.by_right

-- an action that isn't a take leaves the driver's takes as they were
pub takes_kept : (c : Setting) (w : World) (action : Action) → IsSetting c → IsConsistent c w → MayMake c 0 w action → ¬ IsTake action → takes_of (made c 0 w action).world ≡ takes_of w
takes_kept c w (actions.Step step) set kept may not_take =
    ap (λ (v : View). takes_in v) (driver_stepped c w kept step) ∙ step_takes (driver_of w) step (word_found c.opening w.snapshot.words (driver_of w) step) not_take
takes_kept c w (actions.Move step) set kept may not_take = ap (λ (v : View). takes_in v) (driver_moved c w kept step) ∙ move_takes (driver_of w) step
takes_kept c w (actions.Space call) set kept may not_take = ap (λ (v : View). takes_in v) (driver_changes_hand c 0 w (actions.Space call) set kept may tt refl)
takes_kept c w (actions.Block call) set kept may not_take = ap (λ (v : View). takes_in v) (driver_changes_hand c 0 w (actions.Block call) set kept may tt refl)
takes_kept c w (actions.Device call) set kept may not_take = ap (λ (v : View). takes_in v) (driver_changes_hand c 0 w (actions.Device call) set kept may tt refl)
takes_kept c w actions.Ended set kept may not_take = refl

-- a take may add one behind the others
noticed_longer : (without : Bool) (notices : List Notice) (n old : Notice) (k : ℕ) → slice_get notices k ≡ Some old → slice_get (cond without notices (notices ++ n ∷ [])) k ≡ Some old
noticed_longer true notices n old k at = at
noticed_longer false notices n old k at = at_longer notices (n ∷ []) k old at

-- each take has its number still
driver_has : (c : Setting) (w : World) (action : Action) (number : ℕ) (n : Notice) → IsSetting c → IsConsistent c w → MayMake c 0 w action → slice_get (takes_of w) number ≡ Some n → slice_get (takes_of (made c 0 w action).world) number ≡ Some n
driver_has c w (actions.Step (Take page)) number n set kept may has =
    let v : View = driver_of w in
    subst (λ (u : View). slice_get (takes_in u) number ≡ Some n) (sym (driver_stepped c w kept (Take page)))
    (noticed_longer (right_to page.0 v == 0) (takes_in v) (notice_of v page (word_found c.opening w.snapshot.words v (Take page))) n number has)
driver_has c w action number n set kept may has = ap (λ (l : List Notice). slice_get l number) (takes_kept c w action set kept may (λ is. is)) ∙ has

-- ---- what actions add

pub driver_adds : (c : Setting) (w : World) (action : Action) → IsSetting c → IsConsistent c w → IsDriver c.opening (driver_of w) → MayMake c 0 w action → Adds c w (made c 0 w action).world
driver_adds c w action set kept driver may =
    let journal = action_journal c 0 w action in
    record {
      more = journal.0;
      space = journal.1;
      found = λ number page word found. (found.0, driver_has c w action number (record { page = page; word = word; known = found.0 }) set kept may found.1);
    }

pub owner_adds : (c : Setting) (seat : ℕ) (w : World) (action : Action) → IsSetting c → IsConsistent c w → IsOwnerSeat c seat → MayMake c seat w action → Adds c w (made c seat w action).world
owner_adds c seat w action set kept owner may =
    let journal = action_journal c seat w action in
    record {
      more = journal.0;
      space = journal.1;
      found = λ number page word found. (found.0, ap (λ (v : View). slice_get (takes_in v) number) (driver_stays c seat w action set kept may owner) ∙ found.1);
    }

-- ---- what the driver's take finds

-- It is the last of the driver's takes. The word that it finds is noted, and is the page's entry word before it: no word that the
-- driver found for the page before has a bound above that one's.
pub take_found : (c : Setting) (w : World) (page : PageNo) → IsSetting c → IsConsistent c w → IsDriver c.opening (driver_of w) → MayMake c 0 w (actions.Step (Take page))
    → let x : World = (made c 0 w (actions.Step (Take page))).world in
    let word : ℕ = word_found c.opening w.snapshot.words (driver_of w) (Take page) in
    DriverFound x (length (takes_of w)) page word
    × ((number old : ℕ) → DriverFound w number page old → bound_of old ≤ bound_of word)
    × (length (takes_of x) ≡ length (takes_of w) + 1)
take_found c w page set kept driver may =
    let x : World = (made c 0 w (actions.Step (Take page))).world in
    let v : View = driver_of w in
    let word : ℕ = word_found c.opening w.snapshot.words v (Take page) in
    let n : Notice = notice_of v page word in
    let notices : List Notice = takes_of w in
    let right : 0 < right_to page.0 v = driver.rights page.0 may.allowed.in_range in
    let took : takes_of x ≡ notices ++ n ∷ [] =
    ap (λ (u : View). takes_in u) (driver_stepped c w kept (Take page)) ∙ ap (λ (without : Bool). cond without notices (notices ++ n ∷ [])) (ne_eqb (right_to page.0 v) 0 (λ none. omega arith)) in (
      (v.actions.known, ap (λ (l : List Notice). slice_get l (length notices)) took ∙ at_last notices n),
      (λ number old found. (kept.sound.noticed.by_right 0 v number (record { page = page; word = old; known = found.0 }) (driver_there c w kept) found.1).bound_low),
      ap (λ (l : List Notice). length l) took ∙ length-append notices (n ∷ []),
    )

-- a word is behind those of true rounds, where none that was found before has a higher bound
pub behind_rounds : (r : SpaceRun) (finds : Finds) (before : List SpaceAction) (b : BlockNo) (own : List SpaceAction) (page : PageNo) (word : ℕ) → ((number old : ℕ) → finds number page old → bound_of old ≤ bound_of word)
    → (end : ℕ) (rounds : List (List Attempt)) → AreTrueRounds r finds before b own end rounds → AreNotAbove rounds page word
behind_rounds r finds before b own page word low end [] holds = tt
behind_rounds r finds before b own page word low end (attempts ∷ rounds) holds = (
  all_weaker (IsMadeIn r finds before b own rounds holds.0 end) (IsNotAbove page word)
      (λ a is. λ old same found. low (take_number_at r is.place) old (subst (λ (p : PageNo). finds (take_number_at r is.place) p old) same (is.made.word old found).found)) attempts (all_made r finds before b own rounds holds.0 end attempts holds.1),
  behind_rounds r finds before b own page word low holds.0 rounds holds.2,
)

-- ---- what stays true, where the evacuation was told nothing more

-- The driver made nothing there.
module _ (c : Setting) (w x : World) (adds : Adds c w x) (same : actions_of 0 x.space ≡ actions_of 0 w.space) where
  module _ (before : List SpaceAction) (b : BlockNo) (own : List SpaceAction) where
    stage_still : (rounds : List (List Attempt)) (end : ℕ) (stage : Stage) → IsTrueAt (space_run c w) (DriverFound w) before b own rounds end stage → IsTrueAt (space_run c x) (DriverFound x) before b own rounds end stage
    stage_still rounds end stages.Isolating is = tt
    stage_still rounds end (stages.Leasing after) is = tt
    stage_still rounds end (stages.Moving lease) is = record {
      place = is.place;
      behind = is.behind;
      tried = tried_adds c w x adds before b own [] own (append-nil own) lease.from lease.page lease.target is.place is.tried;
      last = ap (λ (n : ℕ). suc n) (take_adds c w x adds is.place is.tried.was_out.inside) ∙ is.last;
    }
    stage_still rounds end (stages.Returning a) is = record {
      place = is.place;
      behind = is.behind;
      attempt = attempt_adds c w x adds before b own [] own (append-nil own) rounds a is.place is.attempt;
    }
    stage_still rounds end (stages.Undoing cause) is = end_adds c w x adds before b own [] own (append-nil own) [] [] refl cause is
    stage_still rounds end stages.Emptied is = tt
    stage_still rounds end (stages.Failed cause) is = end_adds c w x adds before b own [] own (append-nil own) (space.Undo b ∷ []) (space.Undo b ∷ []) refl cause is

  pub told_still : (e : Evacuating) (t : Tale) → HasToldTrue c w e t → HasToldTrue c x e t
  told_still e t p =
      let own : List SpaceAction = evacuation_did e t in
      record {
        before = p.before;
        did = same ∙ p.did;
        end = p.end;
        inside = omega (arith, p.inside, longer_adds c w x adds);
        rounds = rounds_adds c w x adds p.before e.block own [] own (append-nil own) p.end (t.attempts ∷ t.rounds) p.rounds;
        stage = stage_still p.before e.block own t.rounds p.end e.stage p.stage;
      }

  pub move_still : (t : Tale) (lease : MoveLease) (at : MovePlace) → IsTrueMove w t lease at → IsTrueMove x t lease at
  move_still t lease moves.Taking is = tt
  move_still t lease moves.Beginning is = tt
  move_still t lease (moves.Loading cell) is = tt
  move_still t lease (moves.Storing cell value) is = tt
  move_still t lease moves.Marking is = tt
  move_still t lease moves.Remapping is = tt
  move_still t lease (moves.Releasing None) is = tt
  move_still t lease (moves.Releasing (Some word)) is = record {
    number = is.number;
    last = is.last ∙ ap (λ (l : List SpaceAction). targets_in l) (sym same);
    behind = behind_adds c w x adds is.number t.rounds lease.page word is.behind;
  }
