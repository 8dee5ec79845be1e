use borrow.Author.Rules.{rules}
use Rattle.bits.proofs.Conditions.{ls_clear, ls_set, up, always}
use Rattle.bits.specs.Psr.{holds}
use Rattle.bits.proofs.psr.check_condition.Goals as goal

pub returns-in-0 : goal.returns-in-0
unfolding holds
returns-in-0 c = rw c.in-0.is

pub returns-in-1 : goal.returns-in-1
unfolding holds
returns-in-1 c = rw c.in-1.is

pub returns-in-2 : goal.returns-in-2
unfolding holds
returns-in-2 c = rw c.in-2.is

pub returns-in-3 : goal.returns-in-3
unfolding holds
returns-in-3 c = rw c.in-3.is

pub returns-in-4 : goal.returns-in-4
unfolding holds
returns-in-4 c = rw c.in-4.is

pub returns-in-5 : goal.returns-in-5
unfolding holds
returns-in-5 c = rw c.in-5.is

pub returns-in-6 : goal.returns-in-6
unfolding holds
returns-in-6 c = rw c.in-6.is

pub returns-in-7 : goal.returns-in-7
unfolding holds
returns-in-7 c = rw c.in-7.is

pub returns-then-psr : goal.returns-then-psr
unfolding holds
returns-then-psr c = simp (c.in-8.is, c.if-psr.true)

pub returns-else-psr : goal.returns-else-psr
unfolding holds
returns-else-psr c = simp (c.in-8.is, c.if-psr.false)

pub returns-then-not-psr : goal.returns-then-not-psr
unfolding holds
returns-then-not-psr c = rw c.in-9.is (ls_clear c.args.psr.c c.args.psr.z c.if-not-psr.true)

pub returns-else-not-psr : goal.returns-else-not-psr
unfolding holds
returns-else-not-psr c = rw c.in-9.is (ls_set c.args.psr.c c.args.psr.z c.if-not-psr.false)

pub returns-in-10 : goal.returns-in-10
unfolding holds
returns-in-10 c = rw c.in-10.is

pub returns-in-11 : goal.returns-in-11
unfolding holds
returns-in-11 c = rw c.in-11.is

pub returns-then-not-psr-2 : goal.returns-then-not-psr-2
unfolding holds
returns-then-not-psr-2 c = simp (c.in-12.is, c.if-not-psr-2.true)

pub returns-else-not-psr-2 : goal.returns-else-not-psr-2
unfolding holds
returns-else-not-psr-2 c = simp (c.in-12.is, c.if-not-psr-2.false)

pub returns-then-psr-2 : goal.returns-then-psr-2
unfolding holds
returns-then-psr-2 c = simp (c.in-13.is, c.if-psr-2.true)

pub returns-else-psr-2 : goal.returns-else-psr-2
unfolding holds
returns-else-psr-2 c = simp (c.in-13.is, c.if-psr-2.false)

pub returns-in_default : goal.returns-in_default
unfolding holds
returns-in_default c = always _ _ (up (up (up (up (up (up (up (up (up (up (up (up (up (up (search rules) c.in_default.in_default-own.rest.0.0.0.0.0.0.0.0.0.0.0.0.0.1) c.in_default.in_default-own.rest.0.0.0.0.0.0.0.0.0.0.0.0.1) c.in_default.in_default-own.rest.0.0.0.0.0.0.0.0.0.0.0.1) c.in_default.in_default-own.rest.0.0.0.0.0.0.0.0.0.0.1) c.in_default.in_default-own.rest.0.0.0.0.0.0.0.0.0.1) c.in_default.in_default-own.rest.0.0.0.0.0.0.0.0.1) c.in_default.in_default-own.rest.0.0.0.0.0.0.0.1) c.in_default.in_default-own.rest.0.0.0.0.0.0.1) c.in_default.in_default-own.rest.0.0.0.0.0.1) c.in_default.in_default-own.rest.0.0.0.0.1) c.in_default.in_default-own.rest.0.0.0.1) c.in_default.in_default-own.rest.0.0.1) c.in_default.in_default-own.rest.0.1) c.in_default.in_default-own.rest.1)
