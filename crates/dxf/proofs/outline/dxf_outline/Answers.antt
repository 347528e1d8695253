-- What was read is judged and handed over, or its refusal handed on.
use Rattle.dxf.specs.Outline.{outline_to, outline_buffer}
use Rattle.dxf.proofs.Outlines.{dxf_bad, dxf_good}
use Rattle.dxf.proofs.outline.dxf_outline.Goals as goal

pub returns-in_err-state : goal.returns-in_err-state
unfolding outline_to outline_buffer
returns-in_err-state c = let o = c.args in dxf_bad o.text.now _ o.out.now _ _ c.in_err-state.ensures c.from_residual.ensures

pub returns : goal.returns
unfolding outline_to outline_buffer
returns c = let o = c.args in dxf_good o.text.now _ o.out.now _ _ _ c.in_ok-state.ensures c.finish.ensures
