-- The invariant: nothing is wrong with the pieces before piece k, whose records stand in the image.
use mathlib.Core.Path.{◌≡◌}
use Prim.Native.Nat.{ℕ, ◌≤◌}
use Rattle.rules.specs.declared.Table.TheVariants.{FuncInfo, LineInfo}
use Rattle.rules.specs.Bytes.{little}
use Rattle.rules.specs.Rows.{whole_rows, Offered, link_offer, tables_of}
use Rattle.rules.specs.Pieces.{pieces_of}
use Rattle.rules.specs.Examine.{Shown, shown, claim_of, pieces_wrong}
use Rattle.pieces.specs.Tiling.{listed}
use Rattle.examine.proofs.Whole.{Left}
use Rattle.examine.proofs.check_pieces.Given as goal

pub record Looked (o : Offered) (s : Shown) (k funcs lines : ℕ) : Type 0 where
  pub most : k ≤ listed s.pieces
  pub same : pieces_wrong (tables_of little o) (claim_of little s) 0 0 0 (pieces_of s.pieces) ≡ Left o s k funcs lines
  pub funcs_low : funcs ≤ whole_rows FuncInfo s.func_info
  pub lines_low : lines ≤ whole_rows LineInfo s.line_info

abbrev pub invariant-loop-k : goal.invariant-loop-k
invariant-loop-k l =
    Looked (link_offer l.names.code.now l.names.symbols.now l.names.functions.now l.names.relocations.now l.program.instructions.now l.program.func_info.now l.program.line_info.now) (shown l.shown.instructions.now l.shown.func_info.now l.shown.line_info.now l.pieces) l.k l.funcs l.lines
