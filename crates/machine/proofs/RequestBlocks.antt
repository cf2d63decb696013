-- The blocks that a request plugs, and those that it unplugs. The first weren't plugged, and are offline; the driver holds
-- the others. So the driver holds the first then, and the others no more.
use Rattle.std.proofs.Common.{◌≡◌, ℕ, ◌+◌, ◌<◌, ◌≤◌, Bool, true, false, not, ◌&&◌, ◌||◌, List, refl, sym, ap, ◌∙◌, arith, inl, inr, Option}
use Rattle.std.proofs.lemmas.Bool.{cases_lt, both_ways, false≢true, true≢false, false_from_ne_true, and_right, not-true, or_left, and_parts}
use Rattle.evac_model.specs.declared.device.Request.{Request}
use Rattle.evac_model.specs.declared.device.Response.{Response}
use Rattle.evac_model.specs.Geometry.{Sizes}
use Rattle.evac_model.specs.DeviceAnswer.{DeviceState, request_in, after_answer, device_at_start, unplugged_blocks}
use Rattle.evac_model.specs.DeviceJournal.{backing_refuses, answer_to}
use Rattle.evac_model.specs.HostCommands.{BlockRange, blocks_of, plugged_by, request_action}
use Rattle.evac_model.specs.Numbers.{is_in}
use Rattle.evac_model.proofs.DeviceJournal.{device_after-push}
use Rattle.evac_model.proofs.Numbers.{is_in-numbers_where, is_in-numbers_where_past}
use Rattle.evac_model.proofs.Ranges.{range-list_all}
use Rattle.space.proofs.BlockFrames.{is_in_bound}
use Rattle.machine.specs.Consistent.{IsSetting, IsConsistent}
use Rattle.machine.specs.Made.{unplugged_by, request_made}
use Rattle.machine.specs.MayMake.{MayRequest}
use Rattle.machine.specs.World.{Setting, World, space_now, device_now, calls_now, unplugged_now, is_held}
use Rattle.machine.proofs.BlockFrames.{range_bounds}
use Rattle.machine.proofs.NamedBlocks.{unplugged_named}
use Rattle.machine.proofs.PlugAnswers.{changes, plugged_rising}
use Rattle.machine.proofs.Pluggable.{ArePluggable, request_plugged}

-- ---- tests

-- what isn't plugged, where some came and others went
not_changed : (plugged came gone : Bool) → not ((plugged || came) && not gone) ≡ ((not plugged && not came) || gone)
not_changed true came true = refl
not_changed true came false = refl
not_changed false true true = refl
not_changed false true false = refl
not_changed false false gone = refl

-- what is plugged and offline, where what came was offline
held_changed : (offline plugged came gone : Bool) → (came ≡ true → offline ≡ true) → (offline && ((plugged || came) && not gone)) ≡ (((offline && plugged) || came) && not gone)
held_changed true plugged came gone h = refl
held_changed false plugged true gone h = absurd (false≢true (h refl))
held_changed false plugged false gone h = refl

-- what goes from the one to the other, and back
exchanged : (x y there back : Bool) → (there ≡ true → x ≡ true) → (back ≡ true → y ≡ true) → (there ≡ true → back ≡ false) → (x || y) ≡ (((x && not there) || back) || ((y || there) && not back))
exchanged x y true true from_x from_y apart = absurd (true≢false (apart refl))
exchanged true true true false from_x from_y apart = refl
exchanged true false true false from_x from_y apart = refl
exchanged false y true false from_x from_y apart = absurd (false≢true (from_x refl))
exchanged true true false true from_x from_y apart = refl
exchanged false true false true from_x from_y apart = refl
exchanged x false false true from_x from_y apart = absurd (false≢true (from_y refl))
exchanged true y false false from_x from_y apart = refl
exchanged false true false false from_x from_y apart = refl
exchanged false false false false from_x from_y apart = refl

-- ---- the blocks that aren't plugged

unplugged_changed : (s : Sizes) (plugged after came gone : List ℕ) → ((b : ℕ) → is_in b after ≡ ((is_in b plugged || is_in b came) && not (is_in b gone))) → ((b : ℕ) → is_in b gone ≡ true → b < s.managed)
    → (b : ℕ) → is_in b (unplugged_blocks s after) ≡ ((is_in b (unplugged_blocks s plugged) && not (is_in b came)) || is_in b gone)
unplugged_changed s plugged after came gone has inside b = elim (cases_lt b s.managed) [
  | inl low ↦
      is_in-numbers_where (λ (j : ℕ). not (is_in j after)) s.managed b low
      ∙ (ap not (has b)
      ∙ (not_changed (is_in b plugged) (is_in b came) (is_in b gone)
      ∙ ap (λ (t : Bool). (t && not (is_in b came)) || is_in b gone) (sym (is_in-numbers_where (λ (j : ℕ). not (is_in j plugged)) s.managed b low))))
  | inr past ↦
      let none : is_in b gone ≡ false = false_from_ne_true _ (λ h. let low = inside b h in omega arith) in
      is_in-numbers_where_past (λ (j : ℕ). not (is_in j after)) s.managed b past
      ∙ sym (ap (λ (t : Bool). (t && not (is_in b came)) || is_in b gone) (is_in-numbers_where_past (λ (j : ℕ). not (is_in j plugged)) s.managed b past) ∙ none)
]

-- ---- a request

module _ (c : Setting) (w : World) (bytes : List ℕ) (set : IsSetting c) (k : IsConsistent c w) (may : MayRequest c 0 w bytes) where
  abbrev d : DeviceState
  d = device_now c w

  abbrev request : Option Request
  request = request_in bytes

  -- whether its backing refuses it
  abbrev refused : Bool
  refused = backing_refuses c.sizes d (calls_now c w) request

  abbrev response : Response
  response = answer_to c.sizes d (calls_now c w) bytes

  abbrev range : BlockRange
  range = plugged_by c.sizes request response

  -- the blocks that it plugs, and those that it unplugs
  abbrev came : List ℕ
  came = blocks_of range

  abbrev gone : List ℕ
  gone = unplugged_by c.sizes d.plugged request response

  abbrev after : World
  after = (request_made c w bytes response).world

  -- ---- those plugged

  pluggable : 1 ≤ range.count → ArePluggable c.sizes d range
  pluggable some = request_plugged c.sizes d refused request some

  module _ (b : ℕ) (its : is_in b came ≡ true) where
    bounds : (range.first ≤ b) × (b < range.first + range.count)
    bounds = range_bounds range.first range.count b its

    some_there : 1 ≤ range.count
    some_there = let low = bounds.0 in let high = bounds.1 in omega arith

    pub plugged_managed : b < c.sizes.managed
    plugged_managed = let high = bounds.1 in let inside = (pluggable some_there).inside in omega arith

    was_not : not (is_in b d.plugged) ≡ true
    was_not = range-list_all (λ (j : ℕ). not (is_in j d.plugged)) range.first range.count (pluggable some_there).unplugged b bounds.0 bounds.1

    pub were_unplugged : is_in b (unplugged_now c w) ≡ true
    were_unplugged = is_in-numbers_where (λ (j : ℕ). not (is_in j d.plugged)) c.sizes.managed b plugged_managed ∙ was_not

    were_offline : is_in b (space_now c w).offline ≡ true
    were_offline = k.offline b ∙ or_left _ _ were_unplugged

    -- the driver doesn't hold them yet
    pub plugged_not_held : is_held c w b ≡ false
    plugged_not_held = and_right _ _ (not-true _ was_not)

  -- ---- those unplugged

  pub held_managed : (b : ℕ) → is_held c w b ≡ true → b < c.sizes.managed
  held_managed b held = is_in_bound c.sizes.managed d.plugged b (plugged_rising c w set k) (and_parts _ _ held).1

  pub unplugged_held : (b : ℕ) → is_in b gone ≡ true → is_held c w b ≡ true
  unplugged_held b its = may.held b (unplugged_named c.sizes d.plugged request response b its)

  pub unplugged_managed : (b : ℕ) → is_in b gone ≡ true → b < c.sizes.managed
  unplugged_managed b its = held_managed b (unplugged_held b its)

  -- no block is both
  pub plugged_stays : (b : ℕ) → is_in b came ≡ true → is_in b gone ≡ false
  plugged_stays b its = false_from_ne_true _ (λ both. both_ways _ (plugged_not_held b its) (unplugged_held b both))

  -- ---- the blocks then

  device_then : device_now c after ≡ after_answer c.sizes d request response
  device_then = device_after-push c.sizes (device_at_start c.sizes) w.device (request_action bytes response)

  plugged_then : (b : ℕ) → is_in b (device_now c after).plugged ≡ ((is_in b d.plugged || is_in b came) && not (is_in b gone))
  plugged_then b = ap (λ (x : DeviceState). is_in b x.plugged) device_then ∙ (changes c.sizes d refused request).plugged b

  pub unplugged_then : (b : ℕ) → is_in b (unplugged_now c after) ≡ ((is_in b (unplugged_now c w) && not (is_in b came)) || is_in b gone)
  unplugged_then = unplugged_changed c.sizes d.plugged (device_now c after).plugged came gone plugged_then unplugged_managed

  pub held_request : (b : ℕ) → is_held c after b ≡ ((is_held c w b || is_in b came) && not (is_in b gone))
  held_request b =
      ap (λ (t : Bool). is_in b (space_now c w).offline && t) (plugged_then b)
      ∙ held_changed (is_in b (space_now c w).offline) (is_in b d.plugged) (is_in b came) (is_in b gone) (were_offline b)

  pub offline_then : (b : ℕ) → is_in b (space_now c w).offline ≡ (is_in b (unplugged_now c after) || is_held c after b)
  offline_then b =
      k.offline b
      ∙ (exchanged (is_in b (unplugged_now c w)) (is_held c w b) (is_in b came) (is_in b gone) (were_unplugged b) (unplugged_held b) (plugged_stays b)
      ∙ (ap (λ (t : Bool). t || ((is_held c w b || is_in b came) && not (is_in b gone))) (sym (unplugged_then b))
      ∙ ap (λ (t : Bool). is_in b (unplugged_now c after) || t) (sym (held_request b))))
