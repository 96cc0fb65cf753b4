use Rattle.std.proofs.Common.{length}
use Rattle.std.proofs.lemmas.Result.{IfOk-weaker}
use Rattle.output_flood.specs.Tables.{AreNoTables, AreTables}
use Rattle.output_flood.proofs.Places.{tables_first}
use Rattle.output_flood.proofs.tables.first_tables.Goals as goal

pub returns : goal.returns
returns c = IfOk-weaker c.no_tables.result (AreNoTables (length c.args.scripts.now) (length c.args.filters.now)) (AreTables c.args.filters.now c.args.scripts.now)
    (λ tables. tables_first c.args.filters.now c.args.scripts.now tables) (rw c.len.ensures at c.no_tables.ensures)
