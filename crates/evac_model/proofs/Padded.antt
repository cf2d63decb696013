-- One more value in a padded array.
use Rattle.std.proofs.Common.{ℕ, ◌+◌, ◌-◌, ◌<◌, List, drop, replicate, slice_set, sym, ap, ◌∙◌, arith}
use Rattle.std.proofs.Math.Seq.{drop-drop}
use Rattle.std.proofs.lemmas.List.{drop-set-lt, drop-replicate, length-set}
use Rattle.evac_model.specs.Padded.{IsPaddedTo}

pub padded_push : (places count : ℕ) (items : List ℕ) (value : ℕ) → IsPaddedTo places count items → count < places → IsPaddedTo places (count + 1) (slice_set items count value)
padded_push places count items value h l = record {
  all = length-set items count value ∙ h.all;
  most = omega (arith, l);
  rest =
      drop-set-lt (count + 1) items count value (omega arith)
      ∙ (sym (drop-drop 1 count items) ∙ (ap (drop 1) h.rest ∙ (drop-replicate 1 (places - count) 0 ∙ ap (λ n. replicate n 0) (omega arith))));
}
