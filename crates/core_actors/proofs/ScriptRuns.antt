-- An owner that has ended its script made the actions of its calls, one after another.
use Rattle.std.proofs.Common.{◌≡◌, ℕ, suc, true, false, List, [], ◌∷◌, ◌++◌, length, append_assoc, refl, sym, ap, ◌∙◌, Option, Some, None}
use Rattle.std.specs.List.{AllByRecursion}
use Rattle.evac_model.specs.declared.names.FrameNo.{FrameNo}
use Rattle.evac_model.specs.declared.names.PageNo.{PageNo}
use Rattle.evac_model.specs.declared.call.Call.{Call}
use Rattle.evac_model.specs.Geometry.{Sizes}
use Rattle.machine.specs.declared.action.Action.{Action}
use Rattle.machine.specs.declared.action.Action.TheVariants as actions
use Rattle.machine.specs.declared.action.Heard.{Heard}
use Rattle.machine.specs.declared.action.SpaceCall.TheVariants.{Return}
use Rattle.core_actors.specs.declared.action.LeaseSeen.{LeaseSeen}
use Rattle.core_actors.specs.declared.place.Place.{Place}
use Rattle.core_actors.specs.declared.place.Place.TheVariants.{Between, InCall}
use Rattle.core_actors.specs.declared.place.CallPlace.{CallPlace}
use Rattle.core_actors.specs.declared.place.CallPlace.TheVariants.{Zero, MarkZeros, Take, Draw, Load, Store, Mark, Map, Unmap, Release}
use Rattle.core_actors.specs.CallSteps.{IsCallOf, frame_back}
use Rattle.core_actors.specs.Places.{action_at, word_in, behind_first, place_behind, frame_owed, ends_call}
use Rattle.core_actors.specs.Owners.{OwnerState, owner_at_start, owner_ended, next_action}
use Rattle.core_actors.specs.Counts.{ComesTo, IsPlaced}
use Rattle.core_actors.specs.CallRuns.{CallHeard, listed, made_hearing, after_hearing, calls_heard, return_of, script_actions}
use Rattle.core_actors.proofs.UnderWay.{stays_under_way}
use Rattle.core_actors.proofs.LeaseKept.{take_owes, first_owes}
use Rattle.core_actors.proofs.CallRuns.{done_at, goes, begins}

module _ (owner : ℕ) (s : Sizes) where
  abbrev state : Place → List (PageNo × Call) → OwnerState
  state place left = record { owner = owner; cells = s.cells; left = left; place = place }

  abbrev AreCalls : List (PageNo × Call) → Type 0
  AreCalls left = AllByRecursion (λ c. IsCallOf s c) left

  -- what the call under way has made
  abbrev begun : Place → (left : List (PageNo × Call)) → AreCalls left → List Action
  begun place [] all = []
  begun place ((page, call) ∷ cs) all = done_at s page call all.0.call place

  begun-between : (back : Option FrameNo) (left : List (PageNo × Call)) (all : AreCalls left) → begun (Between back) left all ≡ []
  begun-between back [] all = refl
  begun-between back (c ∷ cs) all = refl

  -- with what the call under way has made, the owner makes the frame's return and the actions of its calls; each has ended
  abbrev Makes : (done : List Action) → Option FrameNo → List (PageNo × Call) → (made : List Action) → List CallHeard → Type 0
  Makes done back left made heards = (done ++ made ≡ return_of back ++ script_actions s.cells left heards) × (length heards ≡ length left)

  abbrev MakesAll : List Heard → Place → (left : List (PageNo × Call)) → AreCalls left → Type 0
  MakesAll heards place left all = Makes (begun place left all) (frame_owed place) left (made_hearing (state place left) heards) (calls_heard (state place left) heards)

  abbrev Ends : List Heard → Place → List (PageNo × Call) → Type 0
  Ends heards place left = owner_ended (after_hearing (state place left) heards) ≡ true

  -- ---- one action

  module _ (page : PageNo) (call : Call) (cs : List (PageNo × Call)) (all : AreCalls ((page, call) ∷ cs)) (heard : Heard) (made : List Action) (heards : List CallHeard) where
    abbrev all_calls : List (PageNo × Call)
    all_calls = (page, call) ∷ cs

    abbrev done : Place → List Action
    done place = done_at s page call all.0.call place

    makes_none : (next : Place) → frame_owed next ≡ None → Makes (done next) (frame_owed next) all_calls made heards → done next ++ made ≡ script_actions s.cells all_calls heards
    makes_none next owes m = m.0 ∙ ap (λ (back : Option FrameNo). return_of back ++ script_actions s.cells all_calls heards) owes

    makes_first : Makes (done (behind_first s.cells call heard)) (frame_owed (behind_first s.cells call heard)) all_calls made heards → Makes [] None all_calls (listed (next_action (state (Between None) all_calls)) heard made) heards
    makes_first m =
        let next : Place = behind_first s.cells call heard in
        (begins s page call all.0.call heard made ∙ makes_none next (first_owes s.cells call heard) m, m.1)

    makes_next : (at : CallPlace) → ComesTo s.cells call at → ends_call (InCall at) ≡ false → frame_owed (place_behind s.cells call at heard) ≡ None
        → Makes (done (place_behind s.cells call at heard)) (frame_owed (place_behind s.cells call at heard)) all_calls made heards → Makes (done (InCall at)) None all_calls (listed (action_at (page, call) at) heard made) heards
    makes_next at way going owes m =
        let next : Place = place_behind s.cells call at heard in
        (goes s page call all.0.call at heard way going made ∙ makes_none next owes m, m.1)

    -- the release ends the call
    makes_release : (lease : LeaseSeen) (found : ℕ) (loads : List ℕ) → Makes (begun (Between (frame_back call lease found)) cs all.1) (frame_back call lease found) cs made heards
        → Makes (done (InCall (Release lease found loads))) None all_calls (action_at (page, call) (Release lease found loads) ∷ made) (record { lease = lease; found = found; loads = loads } ∷ heards)
    makes_release lease found loads m =
        let back : Option FrameNo = frame_back call lease found in
        let end : Action = action_at (page, call) (Release lease found loads) in
        let before : List Action = done (InCall (Release lease found loads)) in
        let rest : made ≡ return_of back ++ script_actions s.cells cs heards = ap (λ (l : List Action). l ++ made) (sym (begun-between back cs all.1)) ∙ m.0 in
        (sym (append_assoc before (end ∷ []) made) ∙ ap (λ (l : List Action). (before ++ end ∷ []) ++ l) rest, ap suc m.1)

  -- ---- all of them

  makes_all : (heards : List Heard) (place : Place) (left : List (PageNo × Call)) (all : AreCalls left) → IsPlaced s.cells place left → Ends heards place left → MakesAll heards place left all
  makes_all [] (Between None) [] all way e = (refl, refl)
  makes_all [] (Between None) (c ∷ cs) all way e = absurd cc
  makes_all [] (Between (Some frame)) [] all way e = absurd cc
  makes_all [] (Between (Some frame)) (c ∷ cs) all way e = absurd cc
  makes_all [] (InCall at) [] all way e = absurd way
  makes_all [] (InCall at) (c ∷ cs) all way e = absurd cc
  makes_all (heard ∷ rest) (Between (Some frame)) [] all way e =
      let m = makes_all rest (Between None) [] all tt e in (ap (λ (l : List Action). actions.Space (Return frame) ∷ l) m.0, m.1)
  makes_all (heard ∷ rest) (Between (Some frame)) (c ∷ cs) all way e =
      let m = makes_all rest (Between None) (c ∷ cs) all tt e in (ap (λ (l : List Action). actions.Space (Return frame) ∷ l) m.0, m.1)
  makes_all (heard ∷ rest) (Between None) [] all way e = makes_all rest (Between None) [] all tt e
  makes_all (heard ∷ rest) (Between None) ((page, call) ∷ cs) all way e =
      makes_first page call cs all heard _ _ (makes_all rest (behind_first s.cells call heard) ((page, call) ∷ cs) all (stays_under_way (state (Between None) ((page, call) ∷ cs)) heard way) e)
  makes_all (heard ∷ rest) (InCall at) [] all way e = absurd way
  makes_all (heard ∷ rest) (InCall (Zero frame cell)) ((page, call) ∷ cs) all way e =
      makes_next page call cs all heard _ _ (Zero frame cell) way refl refl (makes_all rest _ ((page, call) ∷ cs) all (stays_under_way (state (InCall (Zero frame cell)) ((page, call) ∷ cs)) heard way) e)
  makes_all (heard ∷ rest) (InCall (MarkZeros frame)) ((page, call) ∷ cs) all way e =
      makes_next page call cs all heard _ _ (MarkZeros frame) way refl refl (makes_all rest _ ((page, call) ∷ cs) all (stays_under_way (state (InCall (MarkZeros frame)) ((page, call) ∷ cs)) heard way) e)
  makes_all (heard ∷ rest) (InCall (Take lease)) ((page, call) ∷ cs) all way e =
      makes_next page call cs all heard _ _ (Take lease) way refl (take_owes (InCall (Take lease)) lease (word_in heard) refl) (makes_all rest _ ((page, call) ∷ cs) all (stays_under_way (state (InCall (Take lease)) ((page, call) ∷ cs)) heard way) e)
  makes_all (heard ∷ rest) (InCall (Draw lease found)) ((page, call) ∷ cs) all way e =
      makes_next page call cs all heard _ _ (Draw lease found) way refl refl (makes_all rest _ ((page, call) ∷ cs) all (stays_under_way (state (InCall (Draw lease found)) ((page, call) ∷ cs)) heard way) e)
  makes_all (heard ∷ rest) (InCall (Load found loads)) ((page, call) ∷ cs) all way e =
      makes_next page call cs all heard _ _ (Load found loads) way refl refl (makes_all rest _ ((page, call) ∷ cs) all (stays_under_way (state (InCall (Load found loads)) ((page, call) ∷ cs)) heard way) e)
  makes_all (heard ∷ rest) (InCall (Store found loads i)) ((page, call) ∷ cs) all way e =
      makes_next page call cs all heard _ _ (Store found loads i) way refl refl (makes_all rest _ ((page, call) ∷ cs) all (stays_under_way (state (InCall (Store found loads i)) ((page, call) ∷ cs)) heard way) e)
  makes_all (heard ∷ rest) (InCall (Mark found loads)) ((page, call) ∷ cs) all way e =
      makes_next page call cs all heard _ _ (Mark found loads) way refl refl (makes_all rest _ ((page, call) ∷ cs) all (stays_under_way (state (InCall (Mark found loads)) ((page, call) ∷ cs)) heard way) e)
  makes_all (heard ∷ rest) (InCall (Map frame kind found)) ((page, call) ∷ cs) all way e =
      makes_next page call cs all heard _ _ (Map frame kind found) way refl refl (makes_all rest _ ((page, call) ∷ cs) all (stays_under_way (state (InCall (Map frame kind found)) ((page, call) ∷ cs)) heard way) e)
  makes_all (heard ∷ rest) (InCall (Unmap found)) ((page, call) ∷ cs) all way e =
      makes_next page call cs all heard _ _ (Unmap found) way refl refl (makes_all rest _ ((page, call) ∷ cs) all (stays_under_way (state (InCall (Unmap found)) ((page, call) ∷ cs)) heard way) e)
  makes_all (heard ∷ rest) (InCall (Release lease found loads)) ((page, call) ∷ cs) all way e =
      makes_release page call cs all heard _ _ lease found loads (makes_all rest (Between (frame_back call lease found)) cs all.1 tt e)

pub makes_its_script : (owner : ℕ) (s : Sizes) (script : List (PageNo × Call)) (heards : List Heard) → AllByRecursion (λ c. IsCallOf s c) script → owner_ended (after_hearing (owner_at_start owner s.cells script) heards) ≡ true
    → (made_hearing (owner_at_start owner s.cells script) heards ≡ script_actions s.cells script (calls_heard (owner_at_start owner s.cells script) heards)) × (length (calls_heard (owner_at_start owner s.cells script) heards) ≡ length script)
makes_its_script owner s script heards all e =
    let m = makes_all owner s heards (Between None) script all tt e in
    (ap (λ (l : List Action). l ++ made_hearing (owner_at_start owner s.cells script) heards) (sym (begun-between owner s None script all)) ∙ m.0, m.1)
