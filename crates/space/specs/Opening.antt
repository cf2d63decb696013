-- The marks and the runs as a space is opened, step by step.
use Rattle.std.specs.Prelude.{ℕ, ◌-◌, List, [], map, replicate, None}
use Rattle.std.specs.List.{range_with_len}
use Rattle.evac_model.specs.declared.names.Kind.{Kind}
use Rattle.evac_model.specs.declared.scenario.StartPage.{StartPage}
use Rattle.evac_model.specs.Geometry.{Sizes, frame_count}
use Rattle.evac_model.specs.SpaceJournal.{out_at_start}
use Rattle.buddy.specs.FreeFrames.{FreeFrames}
use Rattle.page_blocks.specs.Marks.{Marks}

-- the blocks that aren't plugged
abbrev pub unplugged : Sizes → List ℕ
unplugged s = range_with_len s.plugged (s.managed - s.plugged)

-- no block is isolated, and no frame out
abbrev pub marks_at_open : Sizes → Marks
marks_at_open s = record { sizes = s; isolated = []; out = replicate (frame_count s) None }

-- the blocks that aren't plugged are isolated, and no frame is out
abbrev pub marks_isolated : Sizes → Marks
marks_isolated s = record { sizes = s; isolated = unplugged s; out = replicate (frame_count s) None }

-- the blocks that aren't plugged are isolated, and the frames of pages are out
abbrev pub marks_at_start : Sizes → List StartPage → Marks
marks_at_start s start =
    record { sizes = s; isolated = unplugged s; out = map (out_at_start start) (range_with_len 0 (frame_count s)) }

-- no frame is free, and the blocks that aren't plugged are withdrawn
abbrev pub runs_at_open : Sizes → (online : Kind) → FreeFrames
runs_at_open s online = record { sizes = s; online = online; free = []; aside = []; withdrawn = unplugged s }
