-- Zimmermann's step: the quotient is the new digits, or one more than they are, which the square of it tells.
use Prim.Native.Nat.{◌+◌, ◌*◌, ◌/◌, ◌%◌}
use native.Mathlib.Omega.{arith}
use Rattle.real.proofs.Squares.{Split, split, Room, room, extend_up, extend_down, some}
use Rattle.real.proofs.whole.extend.Goals as goal
use Rattle.real.proofs.whole.extend.Goals.{Start}

cut : (c : Start) → Split c.args.a.s c.args.a.r c.args.b c.args.h c.args.l ((c.args.a.r * c.args.b + c.args.h) / (c.args.a.s * 2)) ((c.args.a.r * c.args.b + c.args.h) % (c.args.a.s * 2))
cut c = split c.args.a.s c.args.a.r c.args.b c.args.h c.args.l c.requires.step

space : (c : Start) → Room c.args.a.s c.args.a.r c.args.b ((c.args.a.r * c.args.b + c.args.h) / (c.args.a.s * 2)) ((c.args.a.r * c.args.b + c.args.h) % (c.args.a.s * 2))
space c = room c.args.a.s c.args.a.r c.args.b c.args.h c.args.l _ _ c.requires.root c.requires.base (cut c)

pub returns-then-u-w : goal.returns-then-u-w
returns-then-u-w c = extend_down _ _ _ _ _ _ _ (cut (goal.at.returns-then-u-w c).Start) c.if-u-w.true

pub returns-else-u-w : goal.returns-else-u-w
returns-else-u-w c = extend_up _ _ _ _ _ _ _ (cut (goal.at.returns-else-u-w c).Start) c.if-u-w.false

pub overflow_mul-t : goal.overflow_mul-t
overflow_mul-t c = let h = space (goal.at.overflow_mul-t c).Start in omega arith

pub overflow_add-t : goal.overflow_add-t
overflow_add-t c = let h = space (goal.at.overflow_add-t c).Start in omega arith

pub overflow_mul-u : goal.overflow_mul-u
overflow_mul-u c = let h = space (goal.at.overflow_mul-u c).Start in omega arith

pub overflow_add-u : goal.overflow_add-u
overflow_add-u c = let h = space (goal.at.overflow_add-u c).Start in omega arith

pub overflow_mul-z : goal.overflow_mul-z
overflow_mul-z c = let h = space (goal.at.overflow_mul-z c).Start in omega arith

pub overflow_add-z : goal.overflow_add-z
overflow_add-z c = let h = space (goal.at.overflow_add-z c).Start in omega arith

pub overflow_mul-w : goal.overflow_mul-w
overflow_mul-w c = let h = space (goal.at.overflow_mul-w c).Start in omega arith

pub overflow_sub-result : goal.overflow_sub-result
overflow_sub-result c = let h = space (goal.at.overflow_sub-result c).Start in omega arith

pub overflow_mul-result : goal.overflow_mul-result
overflow_mul-result c = let h = space (goal.at.overflow_mul-result c).Start in omega arith

pub overflow_add-result : goal.overflow_add-result
overflow_add-result c = let h = space (goal.at.overflow_add-result c).Start in omega arith

pub overflow_sub-result-then-u-w : goal.overflow_sub-result-then-u-w
overflow_sub-result-then-u-w c = let h = space (goal.at.overflow_sub-result-then-u-w c).Start in omega arith

pub overflow_sub-result-then-u-w-2 : goal.overflow_sub-result-then-u-w-2
overflow_sub-result-then-u-w-2 c = let h = space (goal.at.overflow_sub-result-then-u-w-2 c).Start in let k = some _ _ c.if-u-w.true in omega arith
