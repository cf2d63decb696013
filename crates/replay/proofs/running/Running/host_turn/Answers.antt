use Rattle.std.proofs.Common.{◌≡◌, ◌∙◌, List, [], ◌∷◌, ◌++◌, append-nil, sym, ap, subst, Option}
use Rattle.evac_model.specs.declared.host.HostLine.{HostLine}
use Rattle.evac_model.specs.declared.scenario.Actor.TheVariants.{Host}
use Rattle.machine.specs.declared.action.Action.{Action}
use Rattle.machine.specs.MayMake.{MayMake}
use Rattle.machine.specs.World.{Setting, device_now}
use Rattle.core_actors.specs.HostHears.{host_after, line_after}
use Rattle.core_actors.specs.Hosts.{HostState, host_action}
use Rattle.replay.specs.Keeping.{IsKept}
use Rattle.replay.specs.Running.{Running, Run, line_list, after_turn, run_after}
use Rattle.replay.specs.RunningInside.{running_of}
use Rattle.replay.specs.Runs.{setting}
use Rattle.replay.proofs.Acting.{host_may_act}
use Rattle.replay.proofs.MachineKept.{turns_are_kept}
use Rattle.replay.proofs.Turns.{host_turn_made}
use Rattle.replay.proofs.running.Running.host_turn.Goals as goal
use Rattle.replay.proofs.running.Running.host_turn.Goals.{After-line, After-push_reserved, In_default}

pub make-requires : goal.make-requires
make-requires c =
    let s = c.self.invariant.scenario in
    let m : Running = running_of c.self.inside in
    let action = c.action.ensures ∙ ap (λ (h : HostState). host_action h) c.make_room.ensures.state in
    let may = host_may_act s m c.self.invariant.runnable c.self.invariant.kept (sym c.has_ended.ensures ∙ c.if-has_ended.false) in
    record {
      may =
          subst (λ (x : Setting). MayMake x 0 m.world c.action.result) (sym c.self.invariant.set)
          (subst (λ (x : Action). MayMake (setting s) 0 m.world x) (sym action) may);
    }

-- the host is one of the machine, and has room
pub hear-requires : goal.hear-requires
hear-requires c =
    let kept = c.self.invariant.kept in
    let sizes = ap (λ (h : HostState). h.sizes) c.make_room.ensures.state ∙ kept.host.kept.space.sizes in
    record {
      sizes = c.plugged.ensures.sizes ∙ (ap (λ (x : Setting). x.sizes) (c.make.ensures.setting ∙ c.self.invariant.set) ∙ sym sizes);
      room = c.in_ok-make_room.ensures.room;
    }

-- the host and its line behind what it heard, with the blocks that are plugged then
record HasHeard (c : After-line) : Type 0 where
  plugged : c.plugged.result.now.plugged ≡ (device_now c.self.inside.machine.setting c.make.new.self.world).plugged
  action : c.action.result ≡ host_action c.self.inside.host.state
  state : c.line.new.self.state ≡ host_after c.plugged.result.now.plugged c.self.inside.host.state c.in_ok-heard.heard
  line : c.line.result ≡ line_after c.plugged.result.now.plugged c.self.inside.host.state c.in_ok-heard.heard

has_heard : (c : After-line) → HasHeard c
has_heard c =
    let plugged = c.plugged.result.now.plugged in
    let same = c.make_room.ensures.state in
    record {
      plugged = c.plugged.ensures.plugged ∙ ap (λ (x : Setting). (device_now x c.make.new.self.world).plugged) c.make.ensures.setting;
      action = c.action.ensures ∙ ap (λ (h : HostState). host_action h) same;
      state = c.line.ensures.state ∙ (c.hear.ensures.state ∙ ap (λ (h : HostState). host_after plugged h c.in_ok-heard.heard) same);
      line = c.line.ensures.line ∙ (c.hear.ensures.line ∙ ap (λ (h : HostState). line_after plugged h c.in_ok-heard.heard) same);
    }

-- what the machine and the host leave is what the turn leaves: with the line of the command that ended, or without
left_told : (c : After-push_reserved)
    → (let n : Running = record (running_of c.self.inside) { world = c.make.new.self.world; host = c.line.new.self.state; lines = c.push_reserved.new.self.items } in n) ≡ after_turn c.self.inside.machine.setting (running_of c.self.inside) Host
left_told c =
    let m : Running = running_of c.self.inside in
    let h = has_heard c.before.before.before in
    let line = sym h.line ∙ c.in-Some.is in
    let lines = c.push_reserved.ensures.items ∙ ap (λ (l : List HostLine). l ++ c.in-Some.line ∷ []) c.reserve.ensures.items ∙ sym (ap (λ (x : Option HostLine). m.lines ++ line_list x) line) in
    host_turn_made c.self.inside.machine.setting m c.action.result c.make.new.self.world c.in_ok-heard.heard c.plugged.result.now.plugged c.line.new.self.state c.push_reserved.new.self.items
    (sym c.has_ended.ensures ∙ c.if-has_ended.false) h.action c.in_ok-heard.ensures.made h.plugged h.state lines

left_untold : (c : In_default)
    → (let n : Running = record (running_of c.self.inside) { world = c.make.new.self.world; host = c.line.new.self.state; lines = c.reserve.new.self.items } in n) ≡ after_turn c.self.inside.machine.setting (running_of c.self.inside) Host
left_untold c =
    let m : Running = running_of c.self.inside in
    let h = has_heard c.before in
    let line = sym h.line ∙ c.in_default.is in
    let lines = c.reserve.ensures.items ∙ sym (append-nil m.lines) ∙ sym (ap (λ (x : Option HostLine). m.lines ++ line_list x) line) in
    host_turn_made c.self.inside.machine.setting m c.action.result c.make.new.self.world c.in_ok-heard.heard c.plugged.result.now.plugged c.line.new.self.state c.reserve.new.self.items
    (sym c.has_ended.ensures ∙ c.if-has_ended.false) h.action c.in_ok-heard.ensures.made h.plugged h.state lines

pub invariant_of-self-in-Some : goal.invariant_of-self-in-Some
invariant_of-self-in-Some c =
    let s = c.self.invariant.scenario in
    let m : Running = running_of c.self.inside in
    record {
      scenario = s;
      runnable = c.self.invariant.runnable;
      set = c.make.ensures.setting ∙ c.self.invariant.set;
      kept = subst (λ (n : Running). IsKept s n) (sym (left_told c ∙ ap (λ (x : Setting). after_turn x m Host) c.self.invariant.set)) (turns_are_kept s m Host c.self.invariant.runnable c.self.invariant.kept);
    }

pub invariant_of-self-in_default : goal.invariant_of-self-in_default
invariant_of-self-in_default c =
    let s = c.self.invariant.scenario in
    let m : Running = running_of c.self.inside in
    record {
      scenario = s;
      runnable = c.self.invariant.runnable;
      set = c.make.ensures.setting ∙ c.self.invariant.set;
      kept = subst (λ (n : Running). IsKept s n) (sym (left_untold c ∙ ap (λ (x : Setting). after_turn x m Host) c.self.invariant.set)) (turns_are_kept s m Host c.self.invariant.runnable c.self.invariant.kept);
    }

pub returns-in_default-clause-turned : goal.returns-in_default-clause-turned
returns-in_default-clause-turned c =
    let inside = c.self.inside in
    ap (λ (x : Setting). let r : Run = record { setting = x; running = record (running_of inside) { world = c.make.new.self.world; host = c.line.new.self.state; lines = c.reserve.new.self.items } } in r) c.make.ensures.setting
    ∙ ap (λ (n : Running). let r : Run = record { setting = inside.machine.setting; running = n } in r) (left_untold c)
    ∙ ap (λ (r : Run). run_after r (Host ∷ [])) c.self.view_is
