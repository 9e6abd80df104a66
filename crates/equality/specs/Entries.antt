-- Demand 2 of what the entries write: the bytes that the map step leaves go to the link, and what the link writes is the crate's, as bytes.
-- Assumes nothing.
use Rattle.std.specs.Prelude.{◌≡◌, ◌⊎◌, cond, List, ℕ, eqb, length}
use Rattle.std.proofs.Math.Option.{none}
use Rattle.rules.specs.Link.{Refusal}
use Rattle.rules.specs.Bytes.{Order, AreBytes, padded}
use Rattle.rules.specs.Answers.{Reply, reply}
use Rattle.rules.specs.Rows.{Offered, tables_of, map_step_refusal, link_refusal}
use Rattle.rules.specs.Entries.{MapResult, map_result, Outputs, room_in, LinkResult, refusal_reply, refused_link, map_entry, link_entry}
use Rattle.equality.specs.Crate as Crate
use Rattle.equality.specs.Crate.{Result, ok, err, Linker}
use Rattle.equality.specs.Info.{insn_bytes, crate_func_info_bytes, crate_line_info_bytes}
use Rattle.equality.specs.Domain.{Hidden, crate_functions, Compared, cause_of}
use Rattle.equality.specs.Demand2.{valid_tables, Except}

-- table 6 as the map step leaves it
abbrev pub with_bytes : Offered → List ℕ → Offered
with_bytes o bytes = record {
  code = o.code;
  symbols = o.symbols;
  functions = o.functions;
  relocations = o.relocations;
  maps = o.maps;
  instructions = bytes;
  func_info = o.func_info;
  line_info = o.line_info;
}

-- the map step's reply if it refuses, else what the link gives
pub data Entered : Type 0 where
  stopped : Reply → Entered
  went : LinkResult → Entered

abbrev pub by_reply : Order → Offered → ℕ → Outputs → MapResult → Entered
by_reply order o root lent r =
    cond (eqb r.reply.number 0) (went (link_entry order (with_bytes o r.instructions) root lent)) (stopped r.reply)

unfoldable pub our_entries : Order → Offered → ℕ → Outputs → Entered
our_entries order o root lent = by_reply order o root lent (map_entry order o)

-- the domain, of what is offered to the two entries and lent to the link
pub record EntryDomain (order : Order) (o : Offered) (hidden : Hidden) (lent : Outputs) (root : ℕ) : Type 0 where
  -- "Valid tables in our limits": neither 1 nor 2 nor 13. Bytes are bytes
  pub map_passes : map_step_refusal o ≡ none
  pub link_passes : link_refusal o root ≡ none
  pub bytes : AreBytes o.instructions
  pub map_bytes : AreBytes o.maps
  -- the clauses but that one
  pub clauses : Except valid_tables (tables_of order o) hidden (room_in lent) root

-- accepted: the three outputs are the crate's instructions as they lie in memory, and its function and line records as its own encoder gives them,
-- on a host of that order
pub record SameBytes (order : Order) (lent : Outputs) (e : Entered) (o : Result Linker) : Type 0 where
  pub linker : Linker
  pub is_ok : o ≡ ok linker
  pub result : LinkResult
  pub is_went : e ≡ went result
  pub places : result.reply ≡ reply 0 (length linker.instructions) (length linker.func_info) (length linker.line_info)
  pub image : result.image ≡ padded lent.image (insn_bytes order linker.instructions)
  pub func_info : result.func_info ≡ padded lent.func_info (crate_func_info_bytes order linker.func_info)
  pub line_info : result.line_info ≡ padded lent.line_info (crate_line_info_bytes order linker.line_info)
  -- the crate's two `num_info` are the counts that the places say
  pub func_num : linker.func_num_info ≡ length linker.func_info
  pub line_num : linker.line_num_info ≡ length linker.line_info

-- refused, by the one step or the other: the crate's error is of the same cause
pub record SameCause (order : Order) (lent : Outputs) (e : Entered) (o : Result Linker) : Type 0 where
  pub why : Refusal
  pub compared : Compared why.number
  pub refused : (e ≡ stopped (refusal_reply why)) ⊎ (e ≡ went (refused_link lent (refusal_reply why)))
  pub is_err : o ≡ err (cause_of why.number)

abbrev pub EqualBytes : Order → Outputs → Entered → Result Linker → Type 0
EqualBytes order lent e o = SameBytes order lent e o ⊎ SameCause order lent e o

-- the map step alone. Refused: table 6 is as it was
pub record SameMapCause (o : Offered) (r : MapResult) (c : Result (List Crate.Function)) : Type 0 where
  pub why : Refusal
  pub compared : Compared why.number
  pub untouched : r ≡ map_result (refusal_reply why) o.instructions
  pub is_err : c ≡ err (cause_of why.number)

-- done: table 6 as it is left, read again, is what the crate leaves in its functions
abbrev pub EqualMapBytes : Order → Offered → Hidden → MapResult → Result (List Crate.Function) → Type 0
EqualMapBytes order o hidden r c =
    ((r.reply.number ≡ 0) × (c ≡ ok (crate_functions (tables_of order (with_bytes o r.instructions)) hidden))) ⊎ SameMapCause o r c
