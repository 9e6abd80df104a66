-- What contracts say of lent bytes, in short: the tables that a definition takes, from the structs that lend them.
-- Assumes nothing.
use Rattle.std.specs.Prelude.{List, [], ℕ, length}
use Rattle.rules.specs.declared.Names.{Names}
use Rattle.rules.specs.declared.Program.{Program}
use Rattle.rules.specs.declared.Image.{Image}
use Rattle.rules.specs.Rows.{Offered, map_step_offer, link_offer}
use Rattle.rules.specs.Entries.{Outputs}
use Rattle.rules.specs.Examine.{Shown, shown}

-- lent bytes
abbrev pub Bytes : Type 0
Bytes = List ℕ

-- ---- the tables that the link takes

abbrev pub lent : Names → Program → Offered
lent names program =
    link_offer names.code.now names.symbols.now names.functions.now names.relocations.now
    program.instructions.now program.func_info.now program.line_info.now

-- ---- those of the map step

abbrev pub lent_maps : Names → Bytes → Bytes → Offered
lent_maps names maps instructions =
    map_step_offer names.code.now names.symbols.now names.functions.now names.relocations.now maps instructions

-- ---- those that say what a slot names

abbrev pub lent_code : Names → Bytes → Offered
lent_code names instructions = lent_maps names [] instructions

-- ---- those that hold a function's parts

abbrev pub parts_offer : List ℕ → List ℕ → List ℕ → List ℕ → Offered
parts_offer functions instructions func_info line_info = link_offer [] [] functions [] instructions func_info line_info

abbrev pub lent_parts : Bytes → Program → Offered
lent_parts functions program = parts_offer functions program.instructions.now program.func_info.now program.line_info.now

-- ---- the three outputs of a link

pub record Buffers : Type 0 where
  pub image : List ℕ
  pub funcs : List ℕ
  pub lines : List ℕ

abbrev pub buffers : List ℕ → List ℕ → List ℕ → Buffers
buffers image funcs lines = record { image = image; funcs = funcs; lines = lines }

abbrev pub lent_image : Image → Buffers
lent_image image = buffers image.slots.now image.func_info.now image.line_info.now

-- their lengths
abbrev pub lent_by : Buffers → Outputs
lent_by b = record { image = length b.image; func_info = length b.funcs; line_info = length b.lines }

-- ---- what is shown to the examiner

abbrev pub lent_shown : Program → Bytes → Shown
lent_shown image pieces = shown image.instructions.now image.func_info.now image.line_info.now pieces
