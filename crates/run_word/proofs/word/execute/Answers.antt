use mathlib.Core.Bool.{false}
use mathlib.Core.Path.{sym, ◌∙◌}
use native.Mathlib.Omega.{arith}
use Rattle.machine.specs.Machine.{assembled}
use Rattle.machine.specs.Place.{state}
use Rattle.meaning.proofs.Laws.{plain-stop, plain-nothing}
use Rattle.word_class.proofs.Classes.{by_class, data_word}
use Rattle.word_class.proofs.Enables.{undefined_at}
use Rattle.run_word.proofs.word.execute.Goals as goal

pub process_data-requires : goal.process_data-requires
process_data-requires c = let a = c.args in (c.requires, data_word a.op a.x.cpsr a.x.fpexc (omega arith) (sym c.in-Data.is ∙ c.enabled_class-class.ensures))

pub returns-in-Data : goal.returns-in-Data
returns-in-Data c = let a = c.args in by_class a.base a.op (state (assembled a.s.now a.r.now a.x false) a.window.now) _ _ (sym c.in-Data.is ∙ c.enabled_class-class.ensures) (c.process_data.ensures a.window.now)

pub returns-in-Access : goal.returns-in-Access
returns-in-Access c = let a = c.args in by_class a.base a.op (state (assembled a.s.now a.r.now a.x false) a.window.now) _ _ (sym c.in-Access.is ∙ c.enabled_class-class.ensures) (c.coprocessor_load_store.ensures (assembled a.s.now a.r.now a.x false))

pub returns-in-Transfer : goal.returns-in-Transfer
returns-in-Transfer c = let a = c.args in by_class a.base a.op (state (assembled a.s.now a.r.now a.x false) a.window.now) _ _ (sym c.in-Transfer.is ∙ c.enabled_class-class.ensures) (c.transfer.ensures a.window.now)

pub returns-in-Skipped : goal.returns-in-Skipped
returns-in-Skipped c = let a = c.args in by_class a.base a.op (state (assembled a.s.now a.r.now a.x false) a.window.now) _ _ (sym c.in-Skipped.is ∙ c.enabled_class-class.ensures) (plain-nothing (state (assembled a.s.now a.r.now a.x false) a.window.now))

pub returns-in-Foreign : goal.returns-in-Foreign
returns-in-Foreign c = let a = c.args in by_class a.base a.op (state (assembled a.s.now a.r.now a.x false) a.window.now) _ _ (sym c.in-Foreign.is ∙ c.enabled_class-class.ensures) (plain-stop _ (state (assembled a.s.now a.r.now a.x false) a.window.now))

pub returns-in-Off : goal.returns-in-Off
returns-in-Off c = let a = c.args in by_class a.base a.op (state (assembled a.s.now a.r.now a.x false) a.window.now) _ _ (sym c.in-Off.is ∙ c.enabled_class-class.ensures) (undefined_at a.op (state (assembled a.s.now a.r.now a.x false) a.window.now) _ c.current_pc-pc.ensures)
