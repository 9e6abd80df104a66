-- The rows are searched by `find_rows`, and `row_number` tells what it answers: a row's number is below the rows' count, which a slice keeps below all ones.
use Rattle.std.proofs.Common.{arith, length, ◌<◌, ◌*◌, ◌^◌}
use Rattle.barkruffle.proofs.Rows.{row_told}
use Rattle.barkruffle.proofs.barkruffle_find_symbol.Goals as goal

pub returns : goal.returns
returns c =
    let room : length c.args.symbols.now * 24 < 2 ^ 63 = c.well_formed.0.1 in
    row_told c.args.symbols.now c.args.index c.row_number.result c.find_rows.result (omega arith) c.find_rows.ensures c.row_number.ensures
