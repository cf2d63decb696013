-- How a proof stores the free frames: as their fields.
use Rattle.std.specs.Prelude.{ℕ, List, refl}
use Rattle.std.specs.Coded.{Coded, code_by, coded×, coded_ℕ, coded_list}
use Rattle.evac_model.specs.declared.names.Kind.{Kind}
use Rattle.evac_model.specs.Geometry.{Sizes}
use Rattle.evac_model.specs.Page.{kind_code}
use Rattle.evac_model.specs.PlainMachine.{sizes_code}
use Rattle.buddy.specs.FreeFrames.{FreeFrames}

abbrev pub free_frames_code : Coded FreeFrames
free_frames_code =
    code_by (Sizes × (Kind × (List ℕ × (List ℕ × List ℕ)))) (coded× sizes_code (coded× kind_code (coded× (coded_list coded_ℕ) (coded× (coded_list coded_ℕ) (coded_list coded_ℕ)))))
    (λ r. (r.sizes, (r.online, (r.free, (r.aside, r.withdrawn)))))
    (λ p. record { sizes = p.0; online = p.1.0; free = p.1.1.0; aside = p.1.1.1.0; withdrawn = p.1.1.1.1 }) (λ _. refl)
