use Rattle.std.proofs.Common.{◌≡◌, ◌≢◌, ℕ, Bool, true, false, List, [], ◌∷◌, ◌++◌, map, reverse, arith, refl, ap, ◌∙◌, subst, append-nil}
use Rattle.evac_model.specs.declared.device.Response.TheVariants.{Ack, Busy, Error}
use Rattle.evac_model.specs.declared.device_journal.DeviceAct.TheVariants as acts
use Rattle.evac_model.specs.declared.device_journal.DeviceAction.{DeviceAction}
use Rattle.evac_model.specs.declared.evacuation.EvacCause.{EvacCause}
use Rattle.evac_model.specs.declared.evacuation.EvacCause.TheVariants.{Unmovable}
use Rattle.evac_model.specs.declared.host.HostResult.{HostResult}
use Rattle.evac_model.specs.declared.host.HostResult.TheVariants as given
use Rattle.evac_model.specs.declared.host.HostRun.{HostRun}
use Rattle.evac_model.specs.declared.names.BlockNo.{BlockNo}
use Rattle.evac_model.specs.declared.space.SpaceAction.{SpaceAction}
use Rattle.evac_model.specs.declared.space.SpaceAction.TheVariants as space
use Rattle.evac_model.specs.DeviceAnswer.{DeviceState}
use Rattle.evac_model.specs.HostCommands.{request_action, put_online}
use Rattle.evac_model.specs.declared.tried.Tried.{Tried}
use Rattle.evac_model.specs.declared.tried.TriedResult.{TriedResult}
use Rattle.evac_model.specs.declared.tried.TriedResult.TheVariants as results
use Rattle.host_work.specs.Evacuated.{by_tale}
use Rattle.host_work.specs.Requests.{Evacuates, block_no, AreTakenAway, WasNotSent, emptied_lines, failed_line}
use Rattle.host_work.specs.Examples.{plugged_machine, all_plugged, with_holes, configured, stayed, plug_3, unplug_3, unplug_all, answered, unsent, isolate, undo, offline, online, attempt, Did, pinned, pinned_in_1, no_target, busy, unmovable}
use Rattle.host_work.proofs.Small.{empty, moved, pinned_found, pinned_in_block_1, without_target, refused, busy_in_five}
use Rattle.host_work.proofs.Undone.{end_undone}
use Rattle.host_work.proofs.laws.commands_of_a_small_machine.Goals as goal

-- all that was done is what the one command did
made_by_one : (d : DeviceState) (x : HostRun) (actions : List SpaceAction) (device : List DeviceAction) (h : Did d (x ∷ []) actions device) → actions ≡ h.0
made_by_one d x actions device h = h.2 ∙ (ap (λ (l : List SpaceAction). h.0 ++ l) h.7.0 ∙ append-nil h.0)

sent_by_one : (d : DeviceState) (x : HostRun) (actions : List SpaceAction) (device : List DeviceAction) (h : Did d (x ∷ []) actions device) → device ≡ h.3
sent_by_one d x actions device h = h.5 ∙ (ap (λ (l : List DeviceAction). h.3 ++ l) h.7.1 ∙ append-nil h.3)

-- ---- what didn't happen

-- the only line says why its block stayed
abbrev cause_in : TriedResult → EvacCause
cause_in (results.Failed cause) = cause
cause_in other = pinned

abbrev cause_of : List Tried → EvacCause
cause_of [] = pinned
cause_of (t ∷ ts) = cause_in t.result

abbrev is_kept : TriedResult → Bool
is_kept (results.Failed cause) = true
is_kept other = false

abbrev first_stayed : List Tried → Bool
first_stayed [] = false
first_stayed (t ∷ ts) = is_kept t.result

only_line : (before : List ℕ) (block : ℕ) (cause : EvacCause) → failed_line 3 pinned ∷ [] ≡ emptied_lines before ++ failed_line block cause ∷ [] → (before ≡ []) × (pinned ≡ cause)
only_line [] block cause is = (refl, ap cause_of is)
only_line (b ∷ before) block cause is = let never : true ≡ false = ap first_stayed is in absurd (cc)

no_undo : (q : List SpaceAction) (b : BlockNo) → isolate 3 ∷ attempt 0 ≢ q ++ space.Undo b ∷ []
no_undo [] b is = absurd (cc)
no_undo (x ∷ []) b is = absurd (cc)
no_undo (x ∷ y ∷ []) b is = absurd (cc)
no_undo (x ∷ y ∷ z ∷ []) b is = absurd (cc)
no_undo (x ∷ y ∷ z ∷ w ∷ q) b is = absurd (cc)

no_online : (q : List SpaceAction) → isolate 3 ∷ offline 3 ∷ [] ≢ q ++ online 3 ∷ []
no_online [] is = absurd (cc)
no_online (x ∷ []) is = absurd (cc)
no_online (x ∷ y ∷ []) is = absurd (cc)
no_online (x ∷ y ∷ z ∷ q) is = absurd (cc)

abbrev E : Evacuates
E = by_tale plugged_machine

-- an evacuation that failed at a pinned page was undone
not_undone : (first : List SpaceAction) (device : List DeviceAction) → WasNotSent E [] plugged_machine all_plugged unplug_3 (failed_line 3 pinned ∷ []) first device → isolate 3 ∷ attempt 0 ≢ first
not_undone first device n is =
    let line = only_line n.before n.block n.cause n.tried in
    let none : n.emptying ≡ [] = subst (λ (l : List ℕ). AreTakenAway E [] l n.emptying) line.0 n.taken_away in
    let end = end_undone plugged_machine (block_no n.block) n.cause n.failing n.failed (λ frame page e. let never : pinned ≡ Unmovable frame page = line.1 ∙ e in absurd (cc)) in
    let whole : first ≡ n.failing =
    n.made
    ∙ (ap (λ (l : List SpaceAction). (l ++ n.failing) ++ put_online (reverse n.before)) none
    ∙ (ap (λ (l : List ℕ). n.failing ++ put_online (reverse l)) line.0 ∙ append-nil n.failing)) in
    no_undo end.0 (block_no n.block) (is ∙ (whole ∙ end.1))

-- the bytes that a configuration says are plugged
abbrev plugged_in : HostResult → ℕ
plugged_in (given.Config config) = config.plugged_size
plugged_in other = 0

-- ---- the rows

pub returns : goal.returns
returns c = record {
  highest_first = refl;
  those_plugged = refl;
  none_where_one_is_unplugged = refl;
  unplugged_and_plugged_again = (
    isolate 3 ∷ (attempt 20 ++ offline 3 ∷ []),
    online 3 ∷ [],
    refl,
    request_action unplug_3 (Ack 0) ∷ [],
    request_action plug_3 (Ack 0) ∷ [],
    refl,
    record { emptying = isolate 3 ∷ (attempt 20 ++ offline 3 ∷ []); taken_away = (isolate 3 ∷ attempt 20, [], refl, moved, refl); made = refl; sent = refl; tried = refl },
    (
      online 3 ∷ [],
      [],
      refl,
      request_action plug_3 (Ack 0) ∷ [],
      [],
      refl,
      record { emptying = []; taken_away = refl; made = refl; sent = refl; tried = refl },
      (refl, refl),
    ),
  );
  unplugged_twice = (
    isolate 3 ∷ offline 3 ∷ [],
    [],
    refl,
    request_action unplug_3 (Ack 0) ∷ [],
    request_action unplug_3 Error ∷ [],
    refl,
    record { emptying = isolate 3 ∷ offline 3 ∷ []; taken_away = (isolate 3 ∷ [], [], refl, empty 3, refl); made = refl; sent = refl; tried = refl },
    (
      [],
      [],
      refl,
      request_action unplug_3 Error ∷ [],
      [],
      refl,
      record { emptying = []; taken_away = refl; made = refl; sent = refl; tried = refl },
      (refl, refl),
    ),
  );
  configuration_alone = (
    [],
    [],
    refl,
    [],
    [],
    refl,
    record { told = refl; tried = refl; nothing_made = refl; nothing_sent = refl },
    (refl, refl),
  );
  pinned_page = (
    isolate 3 ∷ (attempt 0 ++ undo 3 ∷ []),
    [],
    refl,
    [],
    [],
    refl,
    record {
      before = [];
      block = 3;
      behind = [];
      blocks = refl;
      cause = pinned;
      emptying = [];
      taken_away = refl;
      failing = isolate 3 ∷ (attempt 0 ++ undo 3 ∷ []);
      failed = pinned_found;
      made = refl;
      nothing_sent = refl;
      tried = refl;
    },
    (refl, refl),
  );
  five_busy_rounds = (
    isolate 3 ∷ (attempt 0 ++ (attempt 0 ++ (attempt 0 ++ (attempt 0 ++ (attempt 0 ++ undo 3 ∷ []))))),
    [],
    refl,
    [],
    [],
    refl,
    record {
      before = [];
      block = 3;
      behind = [];
      blocks = refl;
      cause = busy;
      emptying = [];
      taken_away = refl;
      failing = isolate 3 ∷ (attempt 0 ++ (attempt 0 ++ (attempt 0 ++ (attempt 0 ++ (attempt 0 ++ undo 3 ∷ [])))));
      failed = busy_in_five;
      made = refl;
      nothing_sent = refl;
      tried = refl;
    },
    (refl, refl),
  );
  no_target_left = (
    isolate 3 ∷ undo 3 ∷ [],
    [],
    refl,
    [],
    [],
    refl,
    record {
      before = [];
      block = 3;
      behind = [];
      blocks = refl;
      cause = no_target;
      emptying = [];
      taken_away = refl;
      failing = isolate 3 ∷ undo 3 ∷ [];
      failed = without_target;
      made = refl;
      nothing_sent = refl;
      tried = refl;
    },
    (refl, refl),
  );
  pinned_behind_two_emptied_ones = (
    stayed,
    [],
    refl,
    [],
    [],
    refl,
    record {
      before = 3 ∷ 2 ∷ [];
      block = 1;
      behind = [];
      blocks = refl;
      cause = pinned_in_1;
      emptying = isolate 3 ∷ offline 3 ∷ isolate 2 ∷ offline 2 ∷ [];
      taken_away = (isolate 3 ∷ [], isolate 2 ∷ offline 2 ∷ [], refl, empty 3, (isolate 2 ∷ [], [], refl, empty 2, refl));
      failing = isolate 1 ∷ (attempt 0 ++ undo 1 ∷ []);
      failed = pinned_in_block_1;
      made = refl;
      nothing_sent = refl;
      tried = refl;
    },
    (refl, refl),
  );
  unmovable_behind_an_emptied_one = (
    isolate 3 ∷ offline 3 ∷ online 3 ∷ [],
    [],
    refl,
    [],
    [],
    refl,
    record {
      before = 3 ∷ [];
      block = 2;
      behind = [];
      blocks = refl;
      cause = unmovable;
      emptying = isolate 3 ∷ offline 3 ∷ [];
      taken_away = (isolate 3 ∷ [], [], refl, empty 3, refl);
      failing = [];
      failed = refused;
      made = refl;
      nothing_sent = refl;
      tried = refl;
    },
    (refl, refl),
  );
  refused_by_the_backing = (
    isolate 3 ∷ offline 3 ∷ online 3 ∷ [],
    [],
    refl,
    request_action unplug_3 Busy ∷ [],
    [],
    refl,
    record { emptying = isolate 3 ∷ offline 3 ∷ []; taken_away = (isolate 3 ∷ [], [], refl, empty 3, refl); made = refl; sent = refl; tried = refl },
    (refl, refl),
  );
  all_with_holes_refused_by_the_backing = (
    isolate 2 ∷ offline 2 ∷ isolate 0 ∷ offline 0 ∷ online 0 ∷ online 2 ∷ [],
    [],
    refl,
    request_action unplug_all Busy ∷ [],
    [],
    refl,
    record {
      emptying = isolate 2 ∷ offline 2 ∷ isolate 0 ∷ offline 0 ∷ [];
      taken_away = (isolate 2 ∷ [], isolate 0 ∷ offline 0 ∷ [], refl, empty 2, (isolate 0 ∷ [], [], refl, empty 0, refl));
      made = refl;
      sent = refl;
      tried = refl;
    },
    (refl, refl),
  );
  undo_left_out = λ h. not_undone h.0 h.3 h.6 (made_by_one all_plugged (unsent unplug_3 (failed_line 3 pinned ∷ [])) _ _ h);
  emptied_block_left_offline = λ h. no_online h.6.emptying (made_by_one all_plugged (answered unplug_3 Busy (emptied_lines (3 ∷ []))) _ _ h ∙ h.6.made);
  sent_for_a_block_that_stayed = λ h.
      let none : request_action unplug_3 Busy ∷ [] ≡ [] = sent_by_one all_plugged (unsent unplug_3 (failed_line 3 pinned ∷ [])) _ _ h ∙ h.6.nothing_sent in
      absurd (cc);
  block_not_tried = λ h. let two : emptied_lines (3 ∷ []) ≡ emptied_lines (3 ∷ 2 ∷ []) = h.6.tried in absurd (cc);
  line_left_out = λ h. let one : [] ≡ emptied_lines (3 ∷ []) = h.6.tried in absurd (cc);
  sent_twice = λ h.
      let once : map (λ (a : DeviceAction). a.act) (request_action unplug_3 (Ack 0) ∷ request_action unplug_3 (Ack 0) ∷ []) ≡ acts.Request unplug_3 (Ack 0) ∷ [] =
      ap (λ (l : List DeviceAction). map (λ (a : DeviceAction). a.act) l) (sent_by_one all_plugged (answered unplug_3 (Ack 0) (emptied_lines (3 ∷ []))) _ _ h) ∙ h.6.sent in
      absurd (cc);
  another_configuration = λ h.
      let same : plugged_in (configured with_holes).line.result ≡ plugged_in (configured all_plugged).line.result = ap plugged_in h.6.told in
      absurd (omega arith);
}
