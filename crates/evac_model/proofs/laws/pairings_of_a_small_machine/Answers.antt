use Rattle.std.proofs.Common.{refl, sym, ◌∙◌, arith}
use Rattle.std.proofs.lemmas.Bool.{false≢true}
use Rattle.std.proofs.lemmas.Option.{none-some}
use Rattle.std.specs.FinMap.{gets}
use Rattle.evac_model.specs.declared.names.Kind.TheVariants.{Movable}
use Rattle.evac_model.specs.Page.{new_page}
use Rattle.evac_model.proofs.Pairings.{not_made}
use Rattle.evac_model.proofs.PairedExample.{calls_made, calls_without_frames, full_legal, full_paired, refused_there, its_return_is_behind, its_lease_is_before, full_out, out_at_end, page_without_frame, last_unplugged}
use Rattle.evac_model.proofs.laws.pairings_of_a_small_machine.Goals as goal

pub returns : goal.returns
returns c = record {
  one_had_a_frame = calls_made;
  neither_had_a_frame = calls_without_frames;
  frame_kept = search not_made;
  other_frame = search not_made;
  other_page = search not_made;
  other_kind = search not_made;
  other_caller = search not_made;
  refused_free = search not_made;
  other_order = search not_made;
  without_entries = λ e. cc;
  legal = full_legal;
  paired = full_paired;
  before_its_return = λ r. its_return_is_behind r.before;
  one_is_free = λ r. r.none_free 1 (record { there = omega arith; fitting = refl; not_out = refl; not_isolated = refl });
  refused_there = refused_there;
  free_again = λ r. r.none_free 1 (record { there = omega arith; fitting = refl; not_out = refl; not_isolated = refl });
  behind_its_lease = λ r. its_lease_is_before r.behind;
  past_the_end = λ r. absurd (omega (arith, r.in_journal));
  out_for_pages = full_out;
  out_at_end = out_at_end;
  out_for_none = λ r. none-some Movable (sym (simp gets) ∙ r.out 1 (record { page = 1; kind = Movable }) refl);
  without_frame = λ r. page_without_frame 2 Movable (omega arith) (r.mapped 2 (new_page 1 Movable) (simp gets));
  with_two_frames = λ r. let e = r.once 0 1 (record { page = 0; kind = Movable }) (record { page = 0; kind = Movable }) refl refl refl in omega arith;
  of_other_kind = λ r. let e = simp gets at (r.out 0 (record { page = 0; kind = Movable }) refl) in cc;
  plugged = last_unplugged;
  one_not_named = λ h. false≢true (h 1);
  all_named = λ h. false≢true (sym (h 3));
}
