use Rattle.std.proofs.Common.{◌≡◌, ◌++◌, drop}
use Rattle.std.specs.List.{flat_map}
use Rattle.report.specs.ReportText.{notice_text}
use Rattle.report.proofs.device_text.put_notices.Given as goal

abbrev pub invariant-loop-notice : goal.invariant-loop-notice
invariant-loop-notice l = l.out.items ++ flat_map (notice_text l.number) (drop l.notice-index l.notices) ≡ l.fn.out.items ++ flat_map (notice_text l.number) l.notices
