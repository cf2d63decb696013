use Rattle.page_blocks.proofs.Frames.{frames_out-rising, frames_out-are_out, frames_out-has}
use Rattle.page_blocks.proofs.laws.frames_out_are_those_out.Goals as goal

pub returns-clause-rising : goal.returns-clause-rising
returns-clause-rising c = frames_out-rising

pub returns-clause-those : goal.returns-clause-those
returns-clause-those c = λ out first n frame o.
    (λ h. let f = frames_out-are_out out first n (frame, o) h in (f.from, f.below, f.out_for), λ h. frames_out-has out first n frame o h.0 h.1 h.2)
