-- What a request does to the plugged blocks: an acknowledged PLUG plugs its range, an acknowledged UNPLUG or UNPLUG_ALL
-- unplugs the blocks that it names, and any other answer leaves them. They stay rising.
use Rattle.std.proofs.Common.{◌≡◌, ℕ, ◌+◌, ◌*◌, ◌≤◌, ◌&&◌, ◌||◌, ◌==◌, Bool, true, false, not, nat_lt, if◌then◌else◌, List, [], ◌∷◌, length, refl, sym, ap, subst, ◌∙◌, arith, Option, None, Some}
use Rattle.std.specs.List.{range_with_len}
use Rattle.std.proofs.Math.Bool.{and-true, or-false}
use Rattle.std.proofs.lemmas.Bool.{cond-true, not-false, and_from}
use Rattle.evac_model.specs.declared.device.Request.{Request}
use Rattle.evac_model.specs.declared.device.Request.TheVariants.{Plug, Unplug, UnplugAll, State}
use Rattle.evac_model.specs.declared.device.Response.{Response}
use Rattle.evac_model.specs.declared.device.Response.TheVariants.{Ack, Nack, Busy, Error}
use Rattle.evac_model.specs.declared.device_journal.DeviceAct.{DeviceAct}
use Rattle.evac_model.specs.declared.device_journal.DeviceAct.TheVariants as acts
use Rattle.evac_model.specs.declared.device_journal.DeviceAction.{DeviceAction}
use Rattle.evac_model.specs.declared.device_journal.Notice.{Notice}
use Rattle.evac_model.specs.Counts.{Calls}
use Rattle.evac_model.specs.Geometry.{Sizes, block_bytes}
use Rattle.evac_model.specs.Numbers.{is_in, IsRisingBelow}
use Rattle.evac_model.specs.DeviceAnswer.{DeviceState, request_in, block_at, is_good_range, are_plugged, are_unplugged, named_blocks, range_state, device_answer, after_answer, after_act, device_after, device_at_start}
use Rattle.evac_model.specs.DeviceJournal.{backing_refuses, calls_after_act, tells_refusal, IsAnswered, AreAnswered}
use Rattle.evac_model.specs.HostCommands.{BlockRange, blocks_of, range_blocks, plugged_by}
use Rattle.evac_model.proofs.Bounds.{good_within}
use Rattle.evac_model.proofs.Members.{is_in-range_with_len}
use Rattle.evac_model.proofs.Unions.{is_in-with_range, is_in-without_range, rising-with_range, rising-without_range, numbers-range}
use Rattle.mem_device.proofs.Answers.{none_rising}
use Rattle.machine.specs.Consistent.{IsSetting, IsConsistent}
use Rattle.machine.specs.Made.{unplugged_by}
use Rattle.machine.specs.World.{Setting, World, device_now}

-- the blocks plugged come in and those unplugged go, and the list stays rising
pub record Changes (s : Sizes) (d : DeviceState) (request : Option Request) (response : Response) : Type 0 where
  pub plugged : (b : ℕ) → is_in b (after_answer s d request response).plugged
      ≡ ((is_in b d.plugged || is_in b (blocks_of (plugged_by s request response))) && not (is_in b (unplugged_by s d.plugged request response)))
  pub rising : IsRisingBelow s.managed d.plugged → IsRisingBelow s.managed (after_answer s d request response).plugged

-- ---- the causes in their order

by_plug : (P : Response → Type 0) (bad few mixed busy : Bool) → P Error → P Nack → P Busy → (bad ≡ false → P (Ack 0)) → P (if bad then Error else if few then Nack else if mixed then Error else if busy then Busy else Ack 0)
by_plug P true few mixed busy error nack wait ack = error
by_plug P false true mixed busy error nack wait ack = nack
by_plug P false false true busy error nack wait ack = error
by_plug P false false false true error nack wait ack = wait
by_plug P false false false false error nack wait ack = ack refl

by_unplug : (P : Response → Type 0) (good whole busy : Bool) → P Error → P Busy → (good ≡ true → whole ≡ true → P (Ack 0)) → P (if not good then Error else if not whole then Error else if busy then Busy else Ack 0)
by_unplug P false whole busy error wait ack = error
by_unplug P true false busy error wait ack = error
by_unplug P true true true error wait ack = wait
by_unplug P true true false error wait ack = ack refl refl

by_unplug_all : (P : Response → Type 0) (none busy : Bool) → P Busy → P (Ack 0) → P (if none then Ack 0 else if busy then Busy else Ack 0)
by_unplug_all P true busy wait ack = ack
by_unplug_all P false true wait ack = wait
by_unplug_all P false false wait ack = ack

by_state : (P : Response → Type 0) (bad : Bool) (state : ℕ) → P Error → P (Ack state) → P (if bad then Error else Ack state)
by_state P true state error told = error
by_state P false state error told = told

-- ---- one request

pub same_in : (x : Bool) → x ≡ ((x || false) && true)
same_in true = refl
same_in false = refl

pub all_gone : (x : Bool) → false ≡ ((x || false) && not x)
all_gone true = refl
all_gone false = refl

module _ (s : Sizes) (d : DeviceState) where
  -- whether a block is plugged
  abbrev was : ℕ → Bool
  was b = is_in b d.plugged

  plug_acknowledged : (addr count : ℕ) → is_good_range s addr count ≡ true → Changes s d (Some (Plug addr count)) (Ack 0)
  plug_acknowledged addr count good =
      let first : ℕ = block_at s addr in
      let range : range_blocks s addr count ≡ record { first = first; count = count } = cond-true (is_good_range s addr count) _ _ good in
      record {
        plugged = λ b.
            is_in-with_range first count d.plugged b
            ∙ (ap (λ (t : Bool). was b || t) (sym (is_in-range_with_len b first count))
            ∙ (ap (λ (r : BlockRange). was b || is_in b (blocks_of r)) (sym range)
            ∙ sym (and-true (was b || is_in b (blocks_of (range_blocks s addr count))))));
        rising = λ r. rising-with_range first count s.managed d.plugged r (good_within s addr count good);
      }

  unplug_acknowledged : (addr count : ℕ) → is_good_range s addr count ≡ true → are_plugged d.plugged (block_at s addr) count ≡ true → Changes s d (Some (Unplug addr count)) (Ack 0)
  unplug_acknowledged addr count good whole =
      let first : ℕ = block_at s addr in
      let named : named_blocks s d.plugged (Some (Unplug addr count)) ≡ range_with_len first count =
      cond-true (is_good_range s addr count && are_plugged d.plugged first count) _ _ (and_from _ _ good whole) in
      record {
        plugged = λ b.
            is_in-without_range first count d.plugged b
            ∙ (ap (λ (t : Bool). was b && not t) (sym (is_in-range_with_len b first count))
            ∙ (ap (λ (l : List ℕ). was b && not (is_in b l)) (sym named)
            ∙ ap (λ (t : Bool). t && not (is_in b (named_blocks s d.plugged (Some (Unplug addr count))))) (sym (or-false (was b)))));
        rising = rising-without_range first count s.managed d.plugged;
      }

  pub changes : (refused : Bool) (request : Option Request) → Changes s d request (device_answer s d refused request)
  changes refused None = record { plugged = λ b. same_in (was b); rising = λ r. r }
  changes refused (Some (Plug addr count)) =
      by_plug (Changes s d (Some (Plug addr count))) (not (is_good_range s addr count)) (nat_lt d.requested ((length d.plugged + count) * block_bytes s)) (not (are_unplugged d.plugged (block_at s addr) count)) (d.migrating || refused)
      (record { plugged = λ b. same_in (was b); rising = λ r. r }) (record { plugged = λ b. same_in (was b); rising = λ r. r }) (record { plugged = λ b. same_in (was b); rising = λ r. r })
      (λ good. plug_acknowledged addr count (not-false _ good))
  changes refused (Some (Unplug addr count)) =
      by_unplug (Changes s d (Some (Unplug addr count))) (is_good_range s addr count) (are_plugged d.plugged (block_at s addr) count) (d.migrating || refused)
      (record { plugged = λ b. same_in (was b); rising = λ r. r }) (record { plugged = λ b. same_in (was b); rising = λ r. r })
      (unplug_acknowledged addr count)
  changes refused (Some UnplugAll) =
      by_unplug_all (Changes s d (Some UnplugAll)) (length d.plugged == 0) (d.migrating || refused)
      (record { plugged = λ b. same_in (was b); rising = λ r. r })
      (record { plugged = λ b. all_gone (was b); rising = λ r. none_rising s.managed })
  changes refused (Some (State addr count)) =
      by_state (Changes s d (Some (State addr count))) (not (is_good_range s addr count)) (range_state d.plugged (block_at s addr) count)
      (record { plugged = λ b. same_in (was b); rising = λ r. r })
      (record { plugged = λ b. same_in (was b); rising = λ r. r })

-- ---- a journal

module _ (s : Sizes) where
  act_rising : (d : DeviceState) (calls : Calls) (a : DeviceAct) (notices : List Notice) → IsAnswered s d calls a notices → IsRisingBelow s.managed d.plugged → IsRisingBelow s.managed (after_act s d a).plugged
  act_rising d calls (acts.Requested size) notices is r = r
  act_rising d calls (acts.Request bytes response) notices is r =
      subst (λ (x : Response). IsRisingBelow s.managed (after_answer s d (request_in bytes) x).plugged) (sym is)
      ((changes s d (tells_refusal notices || backing_refuses s d calls (request_in bytes)) (request_in bytes)).rising r)
  act_rising d calls (acts.Join key) notices is r = r
  act_rising d calls acts.JoinRefused notices is r = r
  act_rising d calls (acts.Leave key) notices is r = r
  act_rising d calls acts.Begin notices is r = r
  act_rising d calls acts.Cancel notices is r = r
  act_rising d calls acts.Finish notices is r = r

  journal_rising : (d : DeviceState) (calls : Calls) (journal : List DeviceAction) → AreAnswered s d calls journal → IsRisingBelow s.managed d.plugged → IsRisingBelow s.managed (device_after s d journal).plugged
  journal_rising d calls [] answered r = r
  journal_rising d calls (a ∷ journal) answered r = journal_rising (after_act s d a.act) (calls_after_act s d calls a.act) journal answered.1 (act_rising d calls a.act a.notices answered.0 r)

  start_rising : s.plugged ≤ s.managed → IsRisingBelow s.managed (device_at_start s).plugged
  start_rising few = sym (numbers-range (λ (b : ℕ). is_in b (range_with_len 0 s.plugged)) 0 s.plugged s.managed (omega arith) (λ b low. is_in-range_with_len b 0 s.plugged))

-- the plugged blocks of a consistent world are rising
pub plugged_rising : (c : Setting) (w : World) → IsSetting c → IsConsistent c w → IsRisingBelow c.sizes.managed (device_now c w).plugged
plugged_rising c w set k = journal_rising c.sizes (device_at_start c.sizes) c.backing w.device k.answered (start_rising c.sizes set.limits.plugged)
