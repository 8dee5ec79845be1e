use Rattle.place_names.proofs.Names.{name_single, name_core, name_flags, name_control, name_fpexc, name_nzcv, name_exceptions, name_word}
use Rattle.text.proofs.Clipping.{added}
use Rattle.text.specs.Text.{clip}
use Prim.Native.Nat.{ℕ}
use mathlib.Core.List.{List, ◌++◌}
use mathlib.Core.Path.{◌∙◌, ap}
use Rattle.text.proofs.text.Text.add_place.Goals as goal

pub returns-then-p-lt-CORE : goal.returns-then-p-lt-CORE
returns-then-p-lt-CORE c = added (c.args.self) _ _ _ _ _ c.push.ensures c.add_decimal.ensures (name_single _ c.if-p-lt-CORE.true)

pub returns-then-p-lt-FLAGS : goal.returns-then-p-lt-FLAGS
returns-then-p-lt-FLAGS c = added (c.args.self) _ _ _ _ _ c.push-then-p-lt-FLAGS.ensures c.add_decimal-then-p-lt-FLAGS.ensures (name_core _ c.if-p-lt-CORE.false c.if-p-lt-FLAGS.true)

pub returns-then-p-lt-CONTROL : goal.returns-then-p-lt-CONTROL
returns-then-p-lt-CONTROL c = c.add.ensures ∙ ap (λ (l : List ℕ). clip (c.args.self ++ l)) (name_flags _ c.if-p-lt-FLAGS.false c.if-p-lt-CONTROL.true)

pub returns-then-p-lt-EXC : goal.returns-then-p-lt-EXC
returns-then-p-lt-EXC c = c.add-then-p-lt-EXC.ensures ∙ ap (λ (l : List ℕ). clip (c.args.self ++ l)) (name_control _ c.if-p-lt-CONTROL.false c.if-p-lt-EXC.true)

pub returns-then-p-lt-NZCV : goal.returns-then-p-lt-NZCV
returns-then-p-lt-NZCV c = c.add-then-p-lt-NZCV.ensures ∙ ap (λ (l : List ℕ). clip (c.args.self ++ l)) (name_fpexc _ c.if-p-lt-EXC.false c.if-p-lt-NZCV.true)

pub returns-then-p-lt-EXCEPTIONS : goal.returns-then-p-lt-EXCEPTIONS
returns-then-p-lt-EXCEPTIONS c = c.add-then-p-lt-EXCEPTIONS.ensures ∙ ap (λ (l : List ℕ). clip (c.args.self ++ l)) (name_nzcv _ c.if-p-lt-NZCV.false c.if-p-lt-EXCEPTIONS.true)

pub returns-then-p-lt-WINDOW : goal.returns-then-p-lt-WINDOW
returns-then-p-lt-WINDOW c = c.add-then-p-lt-WINDOW.ensures ∙ ap (λ (l : List ℕ). clip (c.args.self ++ l)) (name_exceptions _ c.if-p-lt-EXCEPTIONS.false c.if-p-lt-WINDOW.true)

pub returns : goal.returns
returns c = added (c.args.self) _ _ _ _ _ c.push-2.ensures c.add_decimal-2.ensures (name_word _ c.if-p-lt-WINDOW.false)
