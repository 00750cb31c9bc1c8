-- `code_sum` adds two entries of a table of codes.
use Rattle.std.proofs.Common.{arith, ap₂, ◌+◌}
use Rattle.byte_table.proofs.Entries.{entry, entry_lt}
use Rattle.byte_table.proofs.code_sum.Goals as goal

pub overflow_add-result : goal.overflow_add-result
overflow_add-result c =
    let table = c.requires.code_table in
    record { fits = omega (arith, entry_lt _ table _ c.ranges.a.fits, entry_lt _ table _ c.ranges.b.fits) }

pub returns : goal.returns
returns c =
    let table = c.requires.code_table in
    record {
      is = ap₂ ◌+◌ (entry _ table _ c.ranges.a.fits) (entry _ table _ c.ranges.b.fits);
      small = omega (arith, entry_lt _ table _ c.ranges.a.fits, entry_lt _ table _ c.ranges.b.fits);
    }
