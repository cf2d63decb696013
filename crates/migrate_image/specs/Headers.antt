-- The sizes of an image's header, which has no number of pages: an image has one page.
use Rattle.evac_model.specs.Geometry.{Sizes}
use Rattle.migrate_image.specs.declared.sizes.Header.{Header}

abbrev pub sizes_of : Header → Sizes
sizes_of h = record { cells = h.cells; block = h.block; boot = h.boot; managed = h.managed; plugged = h.plugged; pages = 1 }
