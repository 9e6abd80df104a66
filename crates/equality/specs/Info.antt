-- What the Rust crate's record readers do (src/btf/info.rs, a release build), on values: written from that text, its functions' names with - for _.
-- `len` is the list's length. And how the crate's `bpf_insn` lies in memory.
-- Assumes nothing.
use Rattle.std.specs.Prelude.{cond, List, [], ◌∷◌, ◌++◌, ℕ, zero, suc, ◌+◌, ◌*◌, ◌-◌, ◌/◌, eqb, leb, length, take, drop}
use Rattle.rules.specs.Object.{Insn}
use Rattle.rules.specs.Bytes.{Order, little, big, u32_at, bytes2, bytes4, unsigned, half16, half32}
use Rattle.rules.specs.Tables.{FunctionRecord, LineRecord}
use Rattle.equality.specs.Crate.{Result, ok, panics, bind}

-- An `Endianness` is an `Order`, and so is the order of the host that runs the crate. A place past the end is `panics`

-- struct FuncSecInfo, where `info` is func_info, and struct LineSecInfo, where it is line_info. `_sec_name_offset` is never read
pub record SecInfo (A : Type 0) : Type 0 where
  pub num_info : ℕ
  pub info : List A

-- relocation.rs: INS_SIZE, the size of bpf_insn
abbrev pub INS_SIZE : ℕ
INS_SIZE = 8

-- data.chunks(size) for a size that is not 0: pieces of that size, and a last one of what is left. `bound` is how many bytes there are: no fewer than pieces
abbrev pub chunks_of : ℕ → ℕ → List ℕ → List (List ℕ)
chunks_of zero size bytes = []
chunks_of (suc bound) size [] = []
chunks_of (suc bound) size (b ∷ bs) = take size (b ∷ bs) ∷ chunks_of bound size (drop size (b ∷ bs))

-- a size of 0 panics, with data or without
unfoldable pub chunks : ℕ → List ℕ → Result (List (List ℕ))
chunks size bytes = cond (eqb size 0) panics (ok (chunks_of (length bytes) size bytes))

-- &data[from..to]
abbrev pub slice : List ℕ → ℕ → ℕ → Result (List ℕ)
slice bytes from to = cond (leb to (length bytes)) (ok (take (to - from) (drop from bytes))) panics

-- read_u32: u32::from_le_bytes or u32::from_be_bytes, of four bytes
abbrev pub read_u32 : Order → List ℕ → ℕ
read_u32 endianness four = u32_at endianness four 0

-- read_u32(data[offset..offset + 4].try_into().unwrap())
unfoldable pub read_at : Order → List ℕ → ℕ → Result ℕ
read_at endianness bytes offset = bind (slice bytes offset (offset + 4)) (λ four. ok (read_u32 endianness four))

-- |data| { .. bpf_func_info { insn_off, type_id } }
unfoldable pub read_func_info : Order → List ℕ → Result FunctionRecord
read_func_info endianness bytes =
    bind (read_at endianness bytes 0) (λ insn-off. bind (read_at endianness bytes 4) (λ type-id.
    ok (record { slot = insn-off / INS_SIZE; kind = type-id })))

-- |data| { .. bpf_line_info { insn_off, file_name_off, line_off, line_col } }
unfoldable pub read_line_info : Order → List ℕ → Result LineRecord
read_line_info endianness bytes =
    bind (read_at endianness bytes 0) (λ insn-off. bind (read_at endianness bytes 4) (λ file-name-off.
    bind (read_at endianness bytes 8) (λ line-off. bind (read_at endianness bytes 12) (λ line-col.
    ok (record { slot = insn-off / INS_SIZE; file = file-name-off; line = line-off; column = line-col })))))

-- .map(read).collect()
abbrev pub collect : {A : Type 0} → (List ℕ → Result A) → List (List ℕ) → Result (List A)
collect read [] = ok []
collect read (c ∷ cs) = bind (read c) (λ r. bind (collect read cs) (λ rs. ok (r ∷ rs)))

-- fn parse, of FuncSecInfo and of LineSecInfo
abbrev pub parse : {A : Type 0} → (List ℕ → Result A) → ℕ → ℕ → List ℕ → Result (SecInfo A)
parse read num_info rec-size bytes =
    bind (chunks rec-size bytes) (λ cs. bind (collect read cs) (λ info. ok (record { num_info = num_info; info = info })))

unfoldable pub parse_func : ℕ → ℕ → List ℕ → Order → Result (SecInfo FunctionRecord)
parse_func num_info rec-size bytes endianness = parse (read_func_info endianness) num_info rec-size bytes

unfoldable pub parse_line : ℕ → ℕ → List ℕ → Order → Result (SecInfo LineRecord)
parse_line num_info rec-size bytes endianness = parse (read_line_info endianness) num_info rec-size bytes

-- bytes_of::<bpf_func_info>(l), bytes_of::<bpf_line_info>(l): a u32 for each field, in the host's order, with nothing between
abbrev pub bytes_of_func : Order → FunctionRecord → List ℕ
bytes_of_func host l = bytes4 host l.slot ++ bytes4 host l.kind

abbrev pub bytes_of_line : Order → LineRecord → List ℕ
bytes_of_line host l = bytes4 host l.slot ++ (bytes4 host l.file ++ (bytes4 host l.line ++ bytes4 host l.column))

-- for l in &self.func_info { buf.put(..) }
abbrev pub put_all : {A : Type 0} → (A → List ℕ) → List A → List ℕ
put_all bytes_of [] = []
put_all bytes_of (l ∷ ls) = bytes_of l ++ put_all bytes_of ls

unfoldable pub crate_func_info_bytes : Order → List FunctionRecord → List ℕ
crate_func_info_bytes host info = put_all (bytes_of_func host) info

unfoldable pub crate_line_info_bytes : Order → List LineRecord → List ℕ
crate_line_info_bytes host info = put_all (bytes_of_line host) info

-- struct bpf_insn { code; dst_reg : 4, src_reg : 4; off; imm }: a host's compiler gives the first bit field the low bits if it is little-endian,
-- else the high ones
abbrev pub register_byte : Order → Insn → ℕ
register_byte little i = i.destination + 16 * i.source
register_byte big i = 16 * i.destination + i.source

abbrev pub bytes_of_insn : Order → Insn → List ℕ
bytes_of_insn host i = i.opcode ∷ register_byte host i ∷ (bytes2 host (unsigned half16 i.offset) ++ bytes4 host (unsigned half32 i.immediate))

unfoldable pub insn_bytes : Order → List Insn → List ℕ
insn_bytes host instructions = put_all (bytes_of_insn host) instructions
