-- What the host's commands did, as lists: with one action, one block or one command more.
use Rattle.std.proofs.Common.{◌≡◌, ℕ, zero, suc, ◌+◌, List, [], ◌∷◌, ◌++◌, length, map, reverse, take, drop, append_assoc, append-nil, refl, sym, ap, ◌∙◌, subst, arith, Some, None}
use Rattle.std.specs.List.{AllByRecursion, range_with_len, slice_get}
use Rattle.std.proofs.lemmas.List.{reverse-append, take-append-drop, map_push, drop_all}
use Rattle.evac_model.specs.declared.device_journal.DeviceAction.{DeviceAction}
use Rattle.evac_model.specs.declared.host.HostCommand.{HostCommand}
use Rattle.evac_model.specs.declared.host.HostResult.{HostResult}
use Rattle.evac_model.specs.declared.host.HostRun.{HostRun}
use Rattle.evac_model.specs.declared.space.SpaceAction.{SpaceAction}
use Rattle.evac_model.specs.declared.space.SpaceAction.TheVariants as space
use Rattle.evac_model.specs.DeviceAnswer.{DeviceState, device_at_start, device_after, after_act}
use Rattle.evac_model.specs.Geometry.{Sizes}
use Rattle.evac_model.specs.HostCommands.{put_online}
use Rattle.evac_model.specs.Pairing.{actions_of}
use Rattle.evacuate.specs.Tale.{Tale, nothing_tried}
use Rattle.host_work.specs.Commands.{IsDoneBy, AreDoneBy}
use Rattle.host_work.specs.Requests.{Evacuates, block_no, AreTakenAway, emptied_lines}
use Rattle.machine.specs.World.{Setting, World}
use Rattle.core_actors.specs.declared.host_place.HostPlace.TheVariants as places
use Rattle.core_actors.specs.HostDid.{run_list, HasTaken, IsDoneFor, IsPutting, HostDid}
use Rattle.core_actors.specs.HostFound.{truth}
use Rattle.core_actors.specs.HostHears.{line_of, ends_without, with_result}
use Rattle.core_actors.specs.Hosts.{HostState, away, command_blocks, with_blocks, command_begun}

-- ---- blocks from a place on

pub from_place : (xs : List ℕ) (n x : ℕ) → slice_get xs n ≡ Some x → drop n xs ≡ x ∷ drop (suc n) xs
from_place [] n x e = absurd (cc)
from_place (y ∷ ys) zero x e = let same : y ≡ x = cc in ap (λ (z : ℕ). z ∷ ys) same
from_place (y ∷ ys) (suc n) x e = from_place ys n x e

module _ (xs : List ℕ) (n x : ℕ) (at : slice_get xs n ≡ Some x) where
  -- from the last one down to that place
  pub down_to : reverse (drop n xs) ≡ reverse (drop (suc n) xs) ++ x ∷ []
  down_to = ap (λ (l : List ℕ). reverse l) (from_place xs n x at) ∙ reverse-append (x ∷ []) (drop (suc n) xs)

  -- and on to the first one
  pub down_from : reverse xs ≡ reverse (drop (suc n) xs) ++ x ∷ reverse (take n xs)
  down_from =
      ap (λ (l : List ℕ). reverse l) (sym (take-append-drop n xs))
      ∙ (reverse-append (take n xs) (drop n xs)
      ∙ (ap (λ (l : List ℕ). l ++ reverse (take n xs)) down_to
      ∙ append_assoc (reverse (drop (suc n) xs)) (x ∷ []) (reverse (take n xs))))

-- ---- numbers of lines

range_more : (first n : ℕ) → range_with_len first (suc n) ≡ range_with_len first n ++ (first + n) ∷ []
range_more first zero = let e : first ≡ first + 0 = omega arith in ap (λ (k : ℕ). k ∷ []) e
range_more first (suc n) =
    let e : first + 1 + n ≡ first + suc n = omega arith in
    ap (λ (l : List ℕ). first ∷ l) (range_more (first + 1) n ∙ ap (λ (k : ℕ). range_with_len (first + 1) n ++ k ∷ []) e)

-- the numbers of the lines
abbrev pub numbers_of : List HostRun → List ℕ
numbers_of runs = map (λ (x : HostRun). x.line.no) runs

numbers_more : (runs : List HostRun) (x : HostRun) (n : ℕ) → numbers_of runs ≡ range_with_len 0 n → x.line.no ≡ n → numbers_of (runs ++ x ∷ []) ≡ range_with_len 0 (suc n)
numbers_more runs x n numbers is =
    let e : n ≡ 0 + n = omega arith in
    map_push (λ (r : HostRun). r.line.no) runs x
    ∙ (ap (λ (l : List ℕ). l ++ x.line.no ∷ []) numbers
    ∙ (ap (λ (k : ℕ). range_with_len 0 n ++ k ∷ []) (is ∙ e)
    ∙ sym (range_more 0 n)))

-- ---- one block more, and one command more

pub taken_push : (E : Evacuates) (before : List SpaceAction) (blocks : List ℕ) (emptying : List SpaceAction) (b : ℕ) (evacuation : List SpaceAction) → AreTakenAway E before blocks emptying → E (before ++ emptying) (block_no b) None evacuation
    → AreTakenAway E before (blocks ++ b ∷ []) (emptying ++ (evacuation ++ space.Offline (block_no b) ∷ []))
taken_push E before [] emptying b evacuation none emptied = (
  evacuation,
  [],
  ap (λ (l : List SpaceAction). l ++ (evacuation ++ space.Offline (block_no b) ∷ [])) none,
  subst (λ (l : List SpaceAction). E l (block_no b) None evacuation) (append-nil before) (subst (λ (l : List SpaceAction). E (before ++ l) (block_no b) None evacuation) none emptied),
  refl,
)
taken_push E before (a ∷ blocks) emptying b evacuation h emptied =
    let taken : List SpaceAction = h.0 ++ space.Offline (block_no a) ∷ [] in
    let behind : emptying ≡ taken ++ h.1 = h.2 ∙ sym (append_assoc h.0 (space.Offline (block_no a) ∷ []) h.1) in (
      h.0,
      h.1 ++ (evacuation ++ space.Offline (block_no b) ∷ []),
      ap (λ (l : List SpaceAction). l ++ (evacuation ++ space.Offline (block_no b) ∷ [])) h.2
          ∙ append_assoc h.0 (space.Offline (block_no a) ∷ h.1) (evacuation ++ space.Offline (block_no b) ∷ []),
      h.3,
      taken_push E (before ++ taken) blocks h.1 b evacuation h.4
          (subst (λ (l : List SpaceAction). E l (block_no b) None evacuation) (ap (λ (l : List SpaceAction). before ++ l) behind ∙ sym (append_assoc before taken h.1)) emptied),
    )

device_after-append : (s : Sizes) (d : DeviceState) (journal more : List DeviceAction) → device_after s d (journal ++ more) ≡ device_after s (device_after s d journal) more
device_after-append s d [] more = refl
device_after-append s d (a ∷ journal) more = device_after-append s (after_act s d a.act) journal more

pub done_push : (E : Evacuates) (before : List SpaceAction) (s : Sizes) (d : DeviceState) (runs : List HostRun) (x : HostRun) (done actions : List SpaceAction) (sent device : List DeviceAction) → AreDoneBy E before s d runs done sent
    → IsDoneBy E (before ++ done) s (device_after s d sent) x.command x.line.result x.line.tried actions device
    → AreDoneBy E before s d (runs ++ x ∷ []) (done ++ actions) (sent ++ device)
done_push E before s d [] x done actions sent device h one =
    let By : List SpaceAction → List DeviceAction → Type 0 = λ l j. IsDoneBy E l s (device_after s d j) x.command x.line.result x.line.tried actions device in (
      actions,
      [],
      ap (λ (l : List SpaceAction). l ++ actions) h.0 ∙ sym (append-nil actions),
      device,
      [],
      ap (λ (l : List DeviceAction). l ++ device) h.1 ∙ sym (append-nil device),
      subst (λ (l : List SpaceAction). By l []) (append-nil before) (subst (λ (l : List SpaceAction). By (before ++ l) []) h.0 (subst (λ (j : List DeviceAction). By (before ++ done) j) h.1 one)),
      (refl, refl),
    )
done_push E before s d (r ∷ runs) x done actions sent device h one =
    let By : List SpaceAction → DeviceState → Type 0 = λ l e. IsDoneBy E l s e x.command x.line.result x.line.tried actions device in (
      h.0,
      h.1 ++ actions,
      ap (λ (l : List SpaceAction). l ++ actions) h.2 ∙ append_assoc h.0 h.1 actions,
      h.3,
      h.4 ++ device,
      ap (λ (l : List DeviceAction). l ++ device) h.5 ∙ append_assoc h.3 h.4 device,
      h.6,
      done_push E (before ++ h.0) s (device_after s d h.3) runs x h.1 actions h.4 device h.7
          (subst (λ (e : DeviceState). By ((before ++ h.0) ++ h.1) e) (ap (λ (j : List DeviceAction). device_after s d j) h.5 ∙ device_after-append s d h.3 h.4)
          (subst (λ (l : List SpaceAction). By l (device_after s d sent)) (ap (λ (l : List SpaceAction). before ++ l) h.2 ∙ sym (append_assoc before h.0 h.1)) one)),
    )

-- ---- the command under way, one action on

-- a command that has begun did nothing
pub nothing_taken : (c : Setting) (y w : World) (done : List SpaceAction) (sent : List DeviceAction) → actions_of 0 w.space ≡ done → w.device ≡ sent → HasTaken c y w done sent [] []
nothing_taken c y w done sent made same = record { emptying = []; taken = refl; made = made ∙ sym (append-nil done); nothing_sent = same }

module _ (c : Setting) (y w x : World) (done : List SpaceAction) (sent : List DeviceAction) where
  -- behind all that the driver did, it did this
  pub behind : (before since more : List SpaceAction) → actions_of 0 w.space ≡ done ++ (before ++ since) → actions_of 0 x.space ≡ actions_of 0 w.space ++ more → actions_of 0 x.space ≡ done ++ (before ++ (since ++ more))
  behind before since more were made =
      made
      ∙ (ap (λ (l : List SpaceAction). l ++ more) were
      ∙ (append_assoc done (before ++ since) more ∙ ap (λ (l : List SpaceAction). done ++ l) (append_assoc before since more)))

  -- it did nothing more
  pub taken_still : (blocks : List ℕ) (since : List SpaceAction) → HasTaken c y w done sent blocks since → actions_of 0 x.space ≡ actions_of 0 w.space → x.device ≡ w.device → HasTaken c y x done sent blocks since
  taken_still blocks since p made same =
      record { emptying = p.emptying; taken = p.taken; made = made ∙ p.made; nothing_sent = same ∙ p.nothing_sent }

  -- the block that was emptied is taken away
  pub taken_one_more : (blocks : List ℕ) (since : List SpaceAction) (b : ℕ) (p : HasTaken c y w done sent blocks since) → truth c y (done ++ p.emptying) (block_no b) None since
      → actions_of 0 x.space ≡ actions_of 0 w.space ++ space.Offline (block_no b) ∷ [] → x.device ≡ w.device → HasTaken c y x done sent (blocks ++ b ∷ []) []
  taken_one_more blocks since b p emptied made same =
      let away : List SpaceAction = space.Offline (block_no b) ∷ [] in
      record {
        emptying = p.emptying ++ (since ++ away);
        taken = taken_push (truth c y) done blocks p.emptying b since p.taken emptied;
        made = behind p.emptying since away p.made made ∙ sym (ap (λ (l : List SpaceAction). done ++ l) (append-nil (p.emptying ++ (since ++ away))));
        nothing_sent = same ∙ p.nothing_sent;
      }

  -- a block is put online
  pub put_one_more : (h : HostState) (result : HostResult) (b : ℕ) → slice_get h.blocks h.waiting ≡ Some b → IsPutting c y w done sent h result → actions_of 0 x.space ≡ actions_of 0 w.space ++ space.Online (block_no b) ∷ [] → x.device ≡ w.device
      → IsPutting c y x done sent (record h { waiting = h.waiting + 1 }) result
  put_one_more h result b at p made same =
      let more : List SpaceAction = space.Online (block_no b) ∷ [] in
      let pushed : put_online p.put ++ more ≡ put_online (p.put ++ b ∷ []) = sym (map_push (λ (k : ℕ). space.Online (block_no k)) p.put b) in
      let next : suc h.waiting ≡ h.waiting + 1 = omega arith in
      let rest : away h ≡ b ∷ drop (h.waiting + 1) h.blocks = from_place h.blocks h.waiting b at ∙ ap (λ (k : ℕ). b ∷ drop k h.blocks) next in
      let all : p.put ++ away h ≡ (p.put ++ b ∷ []) ++ drop (h.waiting + 1) h.blocks =
      ap (λ (l : List ℕ). p.put ++ l) rest ∙ sym (append_assoc p.put (b ∷ []) (drop (h.waiting + 1) h.blocks)) in
      record {
        before = p.before;
        put = p.put ++ b ∷ [];
        mine = p.mine;
        made = behind p.before (put_online p.put) more p.made made ∙ ap (λ (l : List SpaceAction). done ++ (p.before ++ l)) pushed;
        sent_now = same ∙ p.sent_now;
        whole = subst (λ (l : List ℕ). IsDoneFor c y h.left done sent result h.tried (p.before ++ put_online l) p.mine) all p.whole;
      }

-- It has its result: it will have done all of it once the blocks that the driver holds are put online.
pub begins_to_put : (c : Setting) (y w : World) (done : List SpaceAction) (sent : List DeviceAction) (h : HostState) (result : HostResult) (before : List SpaceAction) (mine : List DeviceAction) → actions_of 0 w.space ≡ done ++ before → w.device ≡ sent ++ mine
    → IsDoneFor c y h.left done sent result h.tried (before ++ put_online (away h)) mine → IsPutting c y w done sent h result
begins_to_put c y w done sent h result before mine made same whole = record {
  before = before;
  put = [];
  mine = mine;
  made = made ∙ sym (ap (λ (l : List SpaceAction). done ++ l) (append-nil before));
  sent_now = same;
  whole = whole;
}

-- ---- the next command

-- no listener was told of these
abbrev pub AreUntold : List DeviceAction → Type 0
AreUntold device = AllByRecursion (λ (a : DeviceAction). a.notices ≡ []) device

abbrev pub DidAll : Setting → World → List HostRun → List SpaceAction → List DeviceAction → Type 0
DidAll c y runs done sent = AreDoneBy (truth c y) [] c.sizes (device_at_start c.sizes) runs done sent

module _ (c : Setting) (y w : World) (runs : List HostRun) (done : List SpaceAction) (sent : List DeviceAction) (h : HostState) (ended : DidAll c y runs done sent) (numbers : numbers_of runs ≡ range_with_len 0 h.number) (untold : AreUntold w.device) (made : actions_of 0 w.space ≡ done) (same : w.device ≡ sent) where
  begun_with : (blocks : List ℕ) → HostDid c y w runs (with_blocks h blocks) nothing_tried
  begun_with [] = record {
    done = done;
    sent = sent;
    ended = ended;
    numbers = numbers;
    doing = (nothing_taken c y w done sent made same, refl);
    no_notices = untold;
  }
  begun_with (b ∷ blocks) =
      let none : drop (length blocks) blocks ≡ [] = drop_all (length blocks) blocks (omega arith) in
      record {
        done = done;
        sent = sent;
        ended = ended;
        numbers = numbers;
        doing = (
          subst (λ (l : List ℕ). HasTaken c y w done sent (reverse l) []) (sym none) (nothing_taken c y w done sent made same),
          ap (λ (l : List ℕ). emptied_lines (reverse l)) (sym none),
        );
        no_notices = untold;
      }

  -- all commands before it have ended
  pub begun_did : (plugged : List ℕ) → HostDid c y w runs (command_begun plugged h) nothing_tried
  begun_did plugged = begun_with (command_blocks h.sizes plugged h.left)

-- ---- the end of a command

pub no_run : (left : List HostCommand) → run_list left None ≡ []
no_run [] = refl
no_run (command ∷ left) = refl

-- no command ended
pub no_line : (c : Setting) (y w : World) (runs : List HostRun) (left : List HostCommand) (h : HostState) (t : Tale) → HostDid c y w runs h t → HostDid c y w (runs ++ run_list left None) h t
no_line c y w runs left h t did =
    subst (λ (l : List HostRun). HostDid c y w l h t) (sym (ap (λ (l : List HostRun). runs ++ l) (no_run left) ∙ append-nil runs)) did

module _ (c : Setting) (y w : World) (runs : List HostRun) (done : List SpaceAction) (sent : List DeviceAction) (plugged : List ℕ) (h : HostState) (result : HostResult) (ended : DidAll c y runs done sent) (numbers : numbers_of runs ≡ range_with_len 0 h.number) (untold : AreUntold w.device) where
  ended_by : (left : List HostCommand) (actions : List SpaceAction) (mine : List DeviceAction) → actions_of 0 w.space ≡ done ++ actions → w.device ≡ sent ++ mine → IsDoneFor c y left done sent result h.tried actions mine
      → HostDid c y w (runs ++ run_list left (Some (line_of h result))) (command_begun plugged (record h { left = drop 1 left; number = suc h.number })) nothing_tried
  ended_by [] actions mine made same whole = absurd whole
  ended_by (command ∷ left) actions mine made same whole =
      let run : HostRun = record { command = command; line = line_of h result } in
      begun_did c y w (runs ++ run ∷ []) (done ++ actions) (sent ++ mine) (record h { left = left; number = suc h.number })
      (done_push (truth c y) [] c.sizes (device_at_start c.sizes) runs run done actions sent mine ended whole)
      (numbers_more runs run h.number numbers refl) untold made same plugged

  by_blocks : (blocks : List ℕ) → away h ≡ blocks → IsPutting c y w done sent h result → HostDid c y w (runs ++ run_list h.left (ends_without blocks plugged h result).line) (ends_without blocks plugged h result).state nothing_tried
  by_blocks [] none p =
      let all : p.put ++ away h ≡ p.put = ap (λ (l : List ℕ). p.put ++ l) none ∙ append-nil p.put in
      ended_by h.left (p.before ++ put_online p.put) p.mine p.made p.sent_now
      (subst (λ (l : List ℕ). IsDoneFor c y h.left done sent result h.tried (p.before ++ put_online l) p.mine) all p.whole)
  by_blocks (b ∷ blocks) some p = no_line c y w runs h.left (record h { place = places.PuttingOnline result }) nothing_tried (record {
    done = done;
    sent = sent;
    ended = ended;
    numbers = numbers;
    doing = record { before = p.before; put = p.put; mine = p.mine; made = p.made; sent_now = p.sent_now; whole = p.whole };
    no_notices = untold;
  })

  -- once the command under way has its result, its blocks are put online, or it ends
  pub result_did : IsPutting c y w done sent h result → HostDid c y w (runs ++ run_list h.left (with_result plugged h result).line) (with_result plugged h result).state nothing_tried
  result_did p = by_blocks (away h) refl p
