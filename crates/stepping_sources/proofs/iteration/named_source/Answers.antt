use lib.Ieee.{binary32, binary64}
use Rattle.sources.specs.Source.{Tracing}
use Rattle.stepping_sources.specs.Stepping.{step_by}
use Rattle.stepping_sources.proofs.Walks.{traced_arithmetic, traced_sign, traced_root, as_fields}
use Rattle.stepping_sources.proofs.iteration.named_source.Goals as goal

pub returns-then-n-lt10 : goal.returns-then-n-lt10
returns-then-n-lt10 c = let a = c.args in λ control. as_fields (λ f d n m. Tracing (step_by f control a.n d n m) a.marks a.q c.arithmetic_double.result) a.op c.if-double.true c.d_of-d.ensures.0 c.n_of-a.ensures.0 c.m_of-b.ensures.0 (traced_arithmetic binary64 control a.n c.d_of-d.result.0 c.n_of-a.result.0 c.m_of-b.result.0 a.marks a.q c.arithmetic_double.result c.if-n-lt10.true (c.arithmetic_double.ensures control))

pub returns-then-n-lt13 : goal.returns-then-n-lt13
returns-then-n-lt13 c = let a = c.args in λ control. as_fields (λ f d n m. Tracing (step_by f control a.n d n m) a.marks a.q c.sign_double.result) a.op c.if-double.true c.d_of-d.ensures.0 c.n_of-a.ensures.0 c.m_of-b.ensures.0 (traced_sign binary64 control a.n c.d_of-d.result.0 c.n_of-a.result.0 c.m_of-b.result.0 a.marks a.q c.sign_double.result c.if-n-lt10.false c.if-n-lt13.true (λ sign. c.sign_double.ensures sign a.marks))

pub returns-then-double : goal.returns-then-double
returns-then-double c = let a = c.args in λ control. as_fields (λ f d n m. Tracing (step_by f control a.n d n m) a.marks a.q c.root_double.result) a.op c.if-double.true c.d_of-d.ensures.0 c.n_of-a.ensures.0 c.m_of-b.ensures.0 (traced_root binary64 control a.n c.d_of-d.result.0 c.n_of-a.result.0 c.m_of-b.result.0 a.marks a.q c.root_double.result c.if-n-lt13.false (c.root_double.ensures control))

pub returns-then-n-lt10-2 : goal.returns-then-n-lt10-2
returns-then-n-lt10-2 c = let a = c.args in λ control. as_fields (λ f d n m. Tracing (step_by f control a.n d n m) a.marks a.q c.arithmetic_single.result) a.op c.if-double.false c.d_of-d-2.ensures.0 c.n_of-a-2.ensures.0 c.m_of-b-2.ensures.0 (traced_arithmetic binary32 control a.n c.d_of-d-2.result.0 c.n_of-a-2.result.0 c.m_of-b-2.result.0 a.marks a.q c.arithmetic_single.result c.if-n-lt10-2.true (c.arithmetic_single.ensures control))

pub returns-then-n-lt13-2 : goal.returns-then-n-lt13-2
returns-then-n-lt13-2 c = let a = c.args in λ control. as_fields (λ f d n m. Tracing (step_by f control a.n d n m) a.marks a.q c.sign_single.result) a.op c.if-double.false c.d_of-d-2.ensures.0 c.n_of-a-2.ensures.0 c.m_of-b-2.ensures.0 (traced_sign binary32 control a.n c.d_of-d-2.result.0 c.n_of-a-2.result.0 c.m_of-b-2.result.0 a.marks a.q c.sign_single.result c.if-n-lt10-2.false c.if-n-lt13-2.true (λ sign. c.sign_single.ensures sign a.marks))

pub returns : goal.returns
returns c = let a = c.args in λ control. as_fields (λ f d n m. Tracing (step_by f control a.n d n m) a.marks a.q c.root_single.result) a.op c.if-double.false c.d_of-d-2.ensures.0 c.n_of-a-2.ensures.0 c.m_of-b-2.ensures.0 (traced_root binary32 control a.n c.d_of-d-2.result.0 c.n_of-a-2.result.0 c.m_of-b-2.result.0 a.marks a.q c.root_single.result c.if-n-lt13-2.false (c.root_single.ensures control))
