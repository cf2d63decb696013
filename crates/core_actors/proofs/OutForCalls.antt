-- A frame that is out for an owner's call, or to be given back.
use Rattle.std.proofs.Common.{◌≡◌, ◌≢◌, ℕ, true≢false, List, [], ◌∷◌, sym, ap, ◌∙◌, Option, Some, None, is_some, IsSome}
use Rattle.std.proofs.lemmas.Option.{none-some}
use Rattle.evac_model.specs.declared.names.FrameNo.{FrameNo}
use Rattle.evac_model.specs.declared.names.PageNo.{PageNo}
use Rattle.evac_model.specs.declared.call.Call.{Call}
use Rattle.evac_model.specs.declared.call.Call.TheVariants.{Alloc, Free, Read, Write, Add, Pin, Unpin}
use Rattle.evac_model.specs.SpaceJournal.{SpaceState, out_for}
use Rattle.core_actors.specs.FramesOut.{IsOutForCall}

-- what has a value isn't `None`
pub not_none : {A : Type 0} (x : Option A) → IsSome x → x ≢ None
not_none {A} x some none = true≢false (sym some ∙ ap (λ (y : Option A). is_some y) none)

module _ (st : SpaceState) (frame : ℕ) where
  -- it is out
  pub is_out : (calls : List (PageNo × Call)) (back : Option FrameNo) → IsOutForCall st calls back frame → out_for st frame ≢ None
  is_out [] back out = out
  is_out ((page, Alloc kind) ∷ cs) None out = λ none. none-some _ (sym none ∙ out)
  is_out ((page, Alloc kind) ∷ cs) (Some f) out = out
  is_out ((page, Free) ∷ cs) None out = λ none. none-some _ (sym none ∙ out.1)
  is_out ((page, Free) ∷ cs) (Some f) out = out
  is_out ((page, Read first count) ∷ cs) back out = out
  is_out ((page, Write first values) ∷ cs) back out = out
  is_out ((page, Add cell value) ∷ cs) back out = out
  is_out ((page, Pin) ∷ cs) back out = out
  is_out ((page, Unpin) ∷ cs) back out = out

  -- nothing but that is asked where a frame is to be given back
  pub out_to_return : (calls : List (PageNo × Call)) (f : FrameNo) → out_for st frame ≢ None → IsOutForCall st calls (Some f) frame
  out_to_return [] f out = out
  out_to_return ((page, Alloc kind) ∷ cs) f out = out
  out_to_return ((page, Free) ∷ cs) f out = out
  out_to_return ((page, Read first count) ∷ cs) f out = out
  out_to_return ((page, Write first values) ∷ cs) f out = out
  out_to_return ((page, Add cell value) ∷ cs) f out = out
  out_to_return ((page, Pin) ∷ cs) f out = out
  out_to_return ((page, Unpin) ∷ cs) f out = out

  -- it stays so in a space where it is out for the same
  pub out_still : (after : SpaceState) (calls : List (PageNo × Call)) (back : Option FrameNo) → out_for after frame ≡ out_for st frame → IsOutForCall st calls back frame → IsOutForCall after calls back frame
  out_still after [] back same out = λ none. out (sym same ∙ none)
  out_still after ((page, Alloc kind) ∷ cs) None same out = same ∙ out
  out_still after ((page, Alloc kind) ∷ cs) (Some f) same out = λ none. out (sym same ∙ none)
  out_still after ((page, Free) ∷ cs) None same out = (out.0, same ∙ out.1)
  out_still after ((page, Free) ∷ cs) (Some f) same out = λ none. out (sym same ∙ none)
  out_still after ((page, Read first count) ∷ cs) back same out = λ none. out (sym same ∙ none)
  out_still after ((page, Write first values) ∷ cs) back same out = λ none. out (sym same ∙ none)
  out_still after ((page, Add cell value) ∷ cs) back same out = λ none. out (sym same ∙ none)
  out_still after ((page, Pin) ∷ cs) back same out = λ none. out (sym same ∙ none)
  out_still after ((page, Unpin) ∷ cs) back same out = λ none. out (sym same ∙ none)
