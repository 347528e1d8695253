-- Each field by its promise.
use Rattle.record.proofs.record.record_of.Goals as goal

pub returns : goal.returns
returns c =
    simp (
      c.le32.ensures.0,
      c.le32-2.ensures.0,
      c.float_at.ensures,
      c.float_at-2.ensures,
      c.float_at-3.ensures,
      c.float_at-4.ensures,
      c.float_at-5.ensures,
      c.float_at-6.ensures,
      c.le32-3.ensures.0,
      c.le32-4.ensures.0,
    )
