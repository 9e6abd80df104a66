-- Table 2 lent as rows, "with the same answers": the entries' definitions at the rows' bytes.
-- Assumes nothing.
use Rattle.std.specs.Prelude.{◌≡◌, List, ℕ}
use Rattle.std.proofs.Math.Option.{Option, none, some}
use Rattle.std.specs.Prelude as prelude
use Rattle.rules.specs.declared.Program.{Program}
use Rattle.rules.specs.Rows.{Offered, link_offer}
use Rattle.rules.specs.Lent.{Bytes}

-- the tables as they were lent, with these bytes as table 2
abbrev pub lent_with : Bytes → List ℕ → Bytes → Bytes → Program → Offered
lent_with code symbols functions relocations program =
    link_offer code symbols functions relocations program.instructions.now program.func_info.now program.line_info.now

-- ---- a row's number, all ones where there is none
abbrev pub no_row : ℕ
no_row = 0xFFFF_FFFF_FFFF_FFFF

abbrev pub row_number : Option ℕ → ℕ
row_number none = no_row
row_number (some k) = k

abbrev pub number_found : prelude.Option ℕ → ℕ
number_found prelude.None = no_row
number_found (prelude.Some k) = k

-- told so that all ones is no row's number
pub record RowTold (result : ℕ) (row : Option ℕ) : Type 0 where
  pub number : result ≡ row_number row
  pub row_missing : result ≡ no_row → row ≡ none
