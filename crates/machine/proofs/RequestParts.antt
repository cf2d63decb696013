-- A request to the device of a machine: the response, the blocks that were found, the hand-overs of their frames, and the
-- world behind.
use Rattle.std.proofs.Common.{◌≡◌, ℕ, ◌+◌, Bool, true, false, if◌then◌else◌, List, [], ◌∷◌, ◌++◌, length, Option, None, Some, refl, sym, ap, subst, ◌∙◌}
use Rattle.std.proofs.lemmas.Option.{same_Some}
use Rattle.std.specs.List.{range_with_len}
use Rattle.evac_model.specs.declared.device.Request.{Request}
use Rattle.evac_model.specs.declared.device.Request.TheVariants.{UnplugAll}
use Rattle.evac_model.specs.declared.device.Response.{Response}
use Rattle.evac_model.specs.declared.device.Response.TheVariants.{Ack, Nack, Busy, Error}
use Rattle.evac_model.specs.Counts.{Calls, after_call}
use Rattle.evac_model.specs.DeviceAnswer.{DeviceState, request_in, named_blocks, asks_backing, device_at_start}
use Rattle.evac_model.specs.DeviceJournal.{answer_to}
use Rattle.evac_model.specs.Geometry.{Sizes}
use Rattle.evac_model.specs.HostCommands.{BlockRange, request_action, requested_blocks, plugged_by, blocks_of, unplugs}
use Rattle.evac_model.proofs.DeviceJournal.{calls_after-push}
use Rattle.core_state.specs.declared.opening.Opening.{Opening}
use Rattle.core_state.specs.declared.snapshot.Snapshot.{Snapshot}
use Rattle.dma_listeners.specs.Slates.{SlateState}
use Rattle.mem_device.specs.Answering.{IsAnswer, IsAsked}
use Rattle.mem_device.specs.DeviceView.{device_state}
use Rattle.machine.specs.declared.action.DeviceHeard.TheVariants as device
use Rattle.machine.specs.declared.action.Heard.TheVariants.{Device}
use Rattle.machine.specs.declared.parts.Parts.{Parts}
use Rattle.machine.specs.BlocksInHand.{MayHandBlocks}
use Rattle.machine.specs.Made.{handed_blocks, unplugged_by, request_made}
use Rattle.machine.specs.MachineInside.{IsMachine, none_made, setting_of, world_of, made_of}
use Rattle.machine.specs.MayMake.{MayRequest}
use Rattle.machine.specs.World.{Setting, World, unplugged_seat, device_at, device_now, calls_now}
use Rattle.machine.proofs.BackBlocks.{told_answer}
use Rattle.machine.proofs.HeldParts.{as_made, same_world}
use Rattle.machine.proofs.NamedBlocks.{plugged_none}
use Rattle.machine.proofs.RequestsKept.{plugged_may, plugged_kept, unplugged_may}

-- the same blocks, views and sizes
hands_again : (s t : Sizes) (o p : Opening) (x y : Snapshot) (from to : ℕ) (blocks found : List ℕ) → t ≡ s → p ≡ o → y ≡ x → found ≡ blocks → MayHandBlocks s o x.views from to blocks → MayHandBlocks t p y.views from to found
hands_again s t o p x y from to blocks found sizes opening snapshot same may = rw (sizes, opening, snapshot, same) may

-- ---- the calls of a backing

-- what a slate tells
abbrev pub told_by : SlateState → Option Calls
told_by slate = Some slate.calls

-- it tells no ranges
abbrev pub ranges_by : SlateState → Option (List BlockRange)
ranges_by slate = None

-- one more, where it was asked
asked_calls : (blocks : BlockRange) (asked : Bool) (before after : SlateState) → IsAsked told_by ranges_by blocks asked before after → after.calls ≡ (if asked then after_call before.calls else before.calls)
asked_calls blocks true before after is = same_Some after.calls (after_call before.calls) is.calls
asked_calls blocks false before after is = ap (λ (x : SlateState). x.calls) is

-- the calls that fail are the same
pub asked_none : (blocks : BlockRange) (asked : Bool) (before after : SlateState) → IsAsked told_by ranges_by blocks asked before after → none_made after.calls ≡ none_made before.calls
asked_none blocks true before after is = ap none_made (asked_calls blocks true before after is)
asked_none blocks false before after is = ap none_made (asked_calls blocks false before after is)

-- ---- a request

abbrev pub answer_of : Parts → (bytes : List ℕ) → Response
answer_of a bytes = answer_to a.space.sizes (device_now (setting_of a) (world_of a)) (calls_now (setting_of a) (world_of a)) bytes

-- the blocks that it plugs, that it names, and that it unplugs
abbrev pub came_of : Parts → (bytes : List ℕ) → List ℕ
came_of a bytes = blocks_of (plugged_by a.space.sizes (request_in bytes) (answer_of a bytes))

abbrev pub named_of : Parts → (bytes : List ℕ) → List ℕ
named_of a bytes = named_blocks a.space.sizes (device_now (setting_of a) (world_of a)).plugged (request_in bytes)

abbrev pub gone_of : Parts → (bytes : List ℕ) → List ℕ
gone_of a bytes = unplugged_by a.space.sizes (device_now (setting_of a) (world_of a)).plugged (request_in bytes) (answer_of a bytes)

-- the words and the views with the frames of those plugged in the driver's hand
abbrev pub between_of : Parts → (bytes : List ℕ) → Snapshot
between_of a bytes = handed_blocks a.space.sizes a.core.snapshot (unplugged_seat (setting_of a)) 0 (came_of a bytes)

module _ (a : Parts) (m : IsMachine a) (bytes sent : List ℕ) (may : MayRequest (setting_of a) 0 (world_of a) bytes) (same : sent ≡ bytes) where
  abbrev c : Setting
  c = setting_of a

  abbrev w : World
  w = world_of a

  abbrev d : DeviceState
  d = device_now c w

  abbrev keeper : ℕ
  keeper = unplugged_seat c

  abbrev answer : Response
  answer = answer_of a bytes

  abbrev came : List ℕ
  came = came_of a bytes

  abbrev named : List ℕ
  named = named_of a bytes

  abbrev gone : List ℕ
  gone = gone_of a bytes

  abbrev between : Snapshot
  between = between_of a bytes

  -- ---- what the device answers, and what is found

  pub response_is : (before later : ℕ) (response : Response) → IsAnswer a.device.sizes (device_state a.device) (request_in sent) before later (Some a.device.backing.calls) response → response ≡ answer
  response_is before later response is =
      told_answer a.device.sizes (device_state a.device) (request_in sent) before later a.device.backing.calls response is
      ∙ (ap (λ (s : Sizes). answer_to s (device_at s a.device.journal) a.device.backing.calls sent) m.device
      ∙ (ap (λ (k : Calls). answer_to c.sizes d k sent) m.backing
      ∙ ap (λ (l : List ℕ). answer_to c.sizes d (calls_now c w) l) same))

  pub named_is : named_blocks a.device.sizes (device_state a.device).plugged (request_in sent) ≡ named
  named_is =
      ap (λ (s : Sizes). named_blocks s (device_at s a.device.journal).plugged (request_in sent)) m.device
      ∙ ap (λ (l : List ℕ). named_blocks c.sizes d.plugged (request_in l)) same

  pub range_is : (s : Sizes) (plugged : List ℕ) (first n : ℕ) → s ≡ a.device.sizes → plugged ≡ (device_state a.device).plugged → range_with_len first n ≡ named_blocks s plugged (request_in sent) → range_with_len first n ≡ named
  range_is s plugged first n sizes is found =
      found
      ∙ (ap (λ (x : Sizes). named_blocks x plugged (request_in sent)) sizes
      ∙ (ap (λ (l : List ℕ). named_blocks a.device.sizes l (request_in sent)) is
      ∙ named_is))

  pub plugged_is : (g : Sizes) (response : Response) (first count : ℕ) → g ≡ c.sizes → response ≡ answer → first ≡ (plugged_by g (request_in sent) response).first → count ≡ (plugged_by g (request_in sent) response).count → range_with_len first count ≡ came
  plugged_is g response first count sizes is from many =
      let found : range_with_len first count ≡ blocks_of (plugged_by g (request_in sent) response) = rw (from, many) refl in
      found
      ∙ (ap (λ (s : Sizes). blocks_of (plugged_by s (request_in sent) response)) sizes
      ∙ (ap (λ (l : List ℕ). blocks_of (plugged_by c.sizes (request_in l) response)) same
      ∙ ap (λ (r : Response). blocks_of (plugged_by c.sizes (request_in bytes) r)) is))

  -- those named are gone where it was acknowledged, and else none
  pub acknowledged : (state : ℕ) → answer ≡ Ack state → gone ≡ named
  acknowledged state is = ap (λ (r : Response). unplugged_by c.sizes d.plugged (request_in bytes) r) is

  pub unacknowledged : ((state : ℕ) → answer ≡ Ack state → ⊥) → gone ≡ []
  unacknowledged none = by_response answer none
    where
      by_response : (r : Response) → ((state : ℕ) → r ≡ Ack state → ⊥) → unplugged_by c.sizes d.plugged (request_in bytes) r ≡ []
      by_response (Ack state) never = absurd (never state refl)
      by_response Nack never = refl
      by_response Busy never = refl
      by_response Error never = refl

  -- ---- the hand-overs

  pub taken_may : (g : Sizes) (taken : List ℕ) → g ≡ c.sizes → taken ≡ came → MayHandBlocks g a.core.opening a.core.snapshot.views keeper 0 taken
  taken_may g taken sizes is =
      hands_again c.sizes g a.core.opening a.core.opening a.core.snapshot a.core.snapshot keeper 0 came taken sizes refl refl is (plugged_may c w bytes m.set m.consistent may)

  pub given_may : (g : Sizes) (o : Opening) (x : Snapshot) (given : List ℕ) → g ≡ c.sizes → o ≡ a.core.opening → x ≡ between → given ≡ gone → MayHandBlocks g o x.views 0 keeper given
  given_may g o x given sizes opening is its =
      hands_again c.sizes g a.core.opening o between x 0 keeper gone given sizes opening is its (unplugged_may c w bytes m.set m.consistent may)

  pub between_seats : (x : Snapshot) → x ≡ between → length x.views ≡ a.owners + 4
  between_seats x is = ap (λ (z : Snapshot). length z.views) is ∙ (plugged_kept c w bytes m.set m.consistent may).seats

  pub between_is : (g : Sizes) (x : Snapshot) (taken : List ℕ) → g ≡ c.sizes → taken ≡ came → x ≡ handed_blocks g a.core.snapshot keeper 0 taken → x ≡ between
  between_is g x taken sizes is handed =
      handed
      ∙ (ap (λ (s : Sizes). handed_blocks s a.core.snapshot keeper 0 taken) sizes
      ∙ ap (λ (l : List ℕ). handed_blocks c.sizes a.core.snapshot keeper 0 l) is)

  behind_is : (g : Sizes) (x y : Snapshot) (given : List ℕ) → g ≡ c.sizes → x ≡ between → given ≡ gone → y ≡ handed_blocks g x 0 keeper given → y ≡ (request_made c w bytes answer).world.snapshot
  behind_is g x y given sizes is its handed =
      handed
      ∙ (ap (λ (s : Sizes). handed_blocks s x 0 keeper given) sizes
      ∙ (ap (λ (z : Snapshot). handed_blocks c.sizes z 0 keeper given) is
      ∙ ap (λ (l : List ℕ). handed_blocks c.sizes between 0 keeper l) its))

  -- ---- the world behind

  pub world_request : (b : Parts) (g : Sizes) (x : Snapshot) (given : List ℕ) (response : Response) → g ≡ c.sizes → x ≡ between → given ≡ gone → response ≡ answer → b.core.snapshot ≡ handed_blocks g x 0 keeper given → b.space.journal ≡ a.space.journal
      → b.device.journal ≡ a.device.journal ++ request_action sent response ∷ [] → world_of b ≡ (request_made c w bytes answer).world
  world_request b g x given response sizes is its answered handed journal actions =
      same_world b.core.snapshot (request_made c w bytes answer).world.snapshot b.space.journal a.space.journal b.device.journal (request_made c w bytes answer).world.device
      (behind_is g x b.core.snapshot given sizes is its handed) journal
      (actions
      ∙ (ap (λ (l : List ℕ). a.device.journal ++ request_action l response ∷ []) same
      ∙ ap (λ (r : Response). a.device.journal ++ request_action bytes r ∷ []) answered))

  -- and what is heard
  pub made_request : (b : Parts) (response : Response) → response ≡ answer → world_of b ≡ (request_made c w bytes answer).world → made_of b (Device (device.Answered response)) ≡ request_made c w bytes answer
  made_request b response answered world = λ i. as_made (world i) (Device (device.Answered (answered i)))

  -- ---- the calls of the backing then

  abbrev asked : Bool
  asked = asks_backing c.sizes d (request_in bytes)

  abbrev range : BlockRange
  range = requested_blocks c.sizes (request_in bytes)

  module _ (after : SlateState) (is : IsAsked told_by ranges_by (requested_blocks a.device.sizes (request_in sent)) (asks_backing a.device.sizes (device_state a.device) (request_in sent)) a.device.backing after) where
    asked_is : IsAsked told_by ranges_by range asked a.device.backing after
    asked_is =
        subst (λ (l : List ℕ). IsAsked told_by ranges_by (requested_blocks c.sizes (request_in l)) (asks_backing c.sizes d (request_in l)) a.device.backing after) same
        (subst (λ (s : Sizes). IsAsked told_by ranges_by (requested_blocks s (request_in sent)) (asks_backing s (device_at s a.device.journal) (request_in sent)) a.device.backing after) m.device is)

    -- they are those of the journal with the request
    pub calls_request : after.calls ≡ calls_now c (request_made c w bytes answer).world
    calls_request =
        asked_calls range asked a.device.backing after asked_is
        ∙ (ap (λ (k : Calls). if asked then after_call k else k) m.backing
        ∙ sym (calls_after-push c.sizes (device_at_start c.sizes) c.backing w.device (request_action bytes answer)))

    -- those that fail are the same
    pub fails_request : none_made after.calls ≡ c.backing
    fails_request = asked_none range asked a.device.backing after asked_is

    -- the parts have the setting again
    pub setting_request : (b : Parts) (o : Opening) → o ≡ a.core.opening → setting_of b ≡ record c { opening = o; backing = none_made after.calls } → setting_of b ≡ c
    setting_request b o opening set =
        set
        ∙ (ap (λ (x : Opening). record c { opening = x; backing = none_made after.calls }) opening
        ∙ ap (λ (k : Calls). record c { backing = k }) fails_request)

  -- ---- an UNPLUG_ALL

  module _ (all : request_in bytes ≡ Some UnplugAll) where
    pub none_came : came ≡ []
    none_came = ap (λ (r : BlockRange). blocks_of r) (plugged_none c.sizes (request_in bytes) answer (ap unplugs all))

    pub all_named : named ≡ d.plugged
    all_named = ap (λ (r : Option Request). named_blocks c.sizes d.plugged r) all

    pub none_between : a.core.snapshot ≡ between
    none_between = ap (λ (l : List ℕ). handed_blocks c.sizes a.core.snapshot keeper 0 l) (sym none_came)

    -- the plugged blocks that are listed are all gone, where it was acknowledged
    pub listed_gone : (blocks plugged : List ℕ) (state : ℕ) → blocks ≡ plugged → plugged ≡ (device_state a.device).plugged → answer ≡ Ack state → blocks ≡ gone
    listed_gone blocks plugged state listed is ack =
        listed
        ∙ (is
        ∙ (ap (λ (s : Sizes). (device_at s a.device.journal).plugged) m.device
        ∙ (sym all_named
        ∙ sym (acknowledged state ack))))
