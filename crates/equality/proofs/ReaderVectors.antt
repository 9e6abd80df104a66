-- The definition of the crate's record readers and encoders (specs/Info.antt) on a sample of generated inputs, and what the real crate answered to
-- each: by computation. Made by `compare --definition` or `compare --reader-vectors` (compare/README.md), on a little-endian host; an input is named by
-- its table, the order of its data, and where it stands in the readers' domain.
-- Assumes nothing.
use mathlib.Core.Path.{◌≡◌, refl}
use mathlib.Core.List.{List, [], ◌∷◌}
use Prim.Native.Nat.{ℕ}
use Rattle.rules.specs.Bytes.{Order, little, big, u32_at}
use Rattle.rules.specs.Tables.{FunctionRecord, LineRecord}
use Rattle.equality.specs.Crate.{Result, ok, err, panics, too_deep}
use Rattle.equality.specs.Info.{SecInfo, chunks, read_at, read_func_info, read_line_info, parse_func, parse_line, crate_func_info_bytes, crate_line_info_bytes}

-- what the crate answers: `num_info`, the records, and their encoded bytes; or a panic
data Seen : Type 0 where
  func_info : ℕ → List FunctionRecord → List ℕ → Seen
  line_info : ℕ → List LineRecord → List ℕ → Seen
  panicked never : Seen

abbrev seen_func : Result (SecInfo FunctionRecord) → Seen
seen_func (ok s) = func_info s.num_info s.info (crate_func_info_bytes little s.info)
seen_func (err e) = never
seen_func panics = panicked
seen_func too_deep = never

abbrev seen_line : Result (SecInfo LineRecord) → Seen
seen_line (ok s) = line_info s.num_info s.info (crate_line_info_bytes little s.info)
seen_line (err e) = never
seen_line panics = panicked
seen_line too_deep = never

-- `num_info`, record size, data, the order of the data
abbrev funcs : ℕ → ℕ → List ℕ → Order → Seen
funcs num_info rec-size bytes endianness = seen_func (parse_func num_info rec-size bytes endianness)

abbrev lines : ℕ → ℕ → List ℕ → Order → Seen
lines num_info rec-size bytes endianness = seen_line (parse_line num_info rec-size bytes endianness)

abbrev func : ℕ → ℕ → FunctionRecord
func slot kind = record { slot = slot; kind = kind }

abbrev line : ℕ → ℕ → ℕ → ℕ → LineRecord
line slot file number column = record { slot = slot; file = file; line = number; column = column }

vectors_1 : (
    -- function records, big: inside, one record
    funcs 1 8 (167 ∷ 8 ∷ 213 ∷ 72 ∷ 87 ∷ 63 ∷ 1 ∷ 23 ∷ []) big
    -- function records, big: inside, one record, with a tail
    ∷ funcs 1 9 (246 ∷ 187 ∷ 93 ∷ 232 ∷ 225 ∷ 230 ∷ 201 ∷ 52 ∷ 40 ∷ []) big
    -- function records, big: inside, records
    ∷ funcs 2 8 (47 ∷ 95 ∷ 233 ∷ 64 ∷ 227 ∷ 209 ∷ 141 ∷ 18 ∷ 238 ∷ 15 ∷ 129 ∷ 200 ∷ 106 ∷ 22 ∷ 211 ∷ 100 ∷ []) big
    -- function records, big: inside, records, with a tail
    ∷ funcs 2 9 (252 ∷ 150 ∷ 87 ∷ 96 ∷ 62 ∷ 178 ∷ 62 ∷ 219 ∷ 190 ∷ 97 ∷ 202 ∷ 188 ∷ 16 ∷ 101 ∷ 148 ∷ 157 ∷ 142 ∷ 108 ∷ []) big
    -- function records, big: off the grid, a later record
    ∷ funcs 2 8 (140 ∷ 30 ∷ 98 ∷ 176 ∷ 175 ∷ 212 ∷ 100 ∷ 251 ∷ 105 ∷ 51 ∷ 64 ∷ 71 ∷ 104 ∷ 248 ∷ 172 ∷ 34 ∷ []) big
    -- function records, big: off the grid, the first record
    ∷ funcs 1 8 (84 ∷ 66 ∷ 146 ∷ 174 ∷ 141 ∷ 40 ∷ 108 ∷ 83 ∷ []) big
    -- function records, big: the last record without all its tail
    ∷ funcs 2 9 (125 ∷ 11 ∷ 157 ∷ 16 ∷ 189 ∷ 179 ∷ 160 ∷ 213 ∷ 82 ∷ 146 ∷ 39 ∷ 199 ∷ 128 ∷ 207 ∷ 32 ∷ 131 ∷ 18 ∷ []) big
    -- function records, big: the only record without all its tail
    ∷ funcs 1 9 (195 ∷ 48 ∷ 217 ∷ 32 ∷ 123 ∷ 115 ∷ 94 ∷ 121 ∷ []) big
    -- function records: a count that is too large, data
    ∷ funcs 2 8 (0 ∷ 231 ∷ 136 ∷ 245 ∷ 255 ∷ 73 ∷ 145 ∷ 83 ∷ []) little
    -- function records: a count that is too large, no data
    ∷ funcs 1 8 [] little
    ∷ [])
    ≡ (
    func_info 1 (func 350296745 1463746839 ∷ []) (169 ∷ 26 ∷ 225 ∷ 20 ∷ 23 ∷ 1 ∷ 63 ∷ 87 ∷ [])
    ∷ func_info 1 (func 517434301 3789998388 ∷ []) (189 ∷ 107 ∷ 215 ∷ 30 ∷ 52 ∷ 201 ∷ 230 ∷ 225 ∷ [])
    ∷ func_info 2 (func 99351848 3822161170 ∷ func 499249209 1779880804 ∷ []) (40 ∷ 253 ∷ 235 ∷ 5 ∷ 18 ∷ 141 ∷ 209 ∷ 227 ∷ 57 ∷ 240 ∷ 193 ∷ 29
    ∷ 100 ∷ 211 ∷ 22 ∷ 106 ∷ [])
    ∷ func_info 2 (func 529713900 1051868891 ∷ func 205084546 1704238478 ∷ []) (236 ∷ 202 ∷ 146 ∷ 31 ∷ 219 ∷ 62 ∷ 178 ∷ 62 ∷ 130 ∷ 87 ∷ 57 ∷ 12
    ∷ 142 ∷ 157 ∷ 148 ∷ 101 ∷ [])
    ∷ func_info 2 (func 293850198 2949932283 ∷ func 220620808 1761127458 ∷ []) (86 ∷ 204 ∷ 131 ∷ 17 ∷ 251 ∷ 100 ∷ 212 ∷ 175 ∷ 8 ∷ 104 ∷ 38 ∷ 13
    ∷ 34 ∷ 172 ∷ 248 ∷ 104 ∷ [])
    ∷ func_info 1 (func 176706133 2368236627 ∷ []) (85 ∷ 82 ∷ 136 ∷ 10 ∷ 83 ∷ 108 ∷ 40 ∷ 141 ∷ [])
    ∷ func_info 2 (func 262239138 3182665941 ∷ func 306510064 3475014418 ∷ []) (162 ∷ 115 ∷ 161 ∷ 15 ∷ 213 ∷ 160 ∷ 179 ∷ 189 ∷ 240 ∷ 248 ∷ 68
    ∷ 18 ∷ 18 ∷ 131 ∷ 32 ∷ 207 ∷ [])
    ∷ func_info 1 (func 409344804 2071158393 ∷ []) (36 ∷ 27 ∷ 102 ∷ 24 ∷ 121 ∷ 94 ∷ 115 ∷ 123 ∷ [])
    ∷ func_info 2 (func 514923744 1402030591 ∷ []) (224 ∷ 28 ∷ 177 ∷ 30 ∷ 255 ∷ 73 ∷ 145 ∷ 83 ∷ [])
    ∷ func_info 1 [] []
    ∷ [])
unfolding u32_at chunks read_at read_func_info read_line_info parse_func parse_line crate_func_info_bytes crate_line_info_bytes
vectors_1 = refl

vectors_2 : (
    -- function records: a count that is too small, data
    funcs 0 8 (168 ∷ 61 ∷ 251 ∷ 145 ∷ 242 ∷ 163 ∷ 9 ∷ 146 ∷ []) little
    -- function records: a size below 4, data
    ∷ funcs 0 1 (209 ∷ []) little
    -- function records: a size below 4, no data
    ∷ funcs 0 2 [] little
    -- function records: a size below 8, data
    ∷ funcs 1 6 (224 ∷ []) little
    -- function records: a size below 8, no data
    ∷ funcs 0 4 [] little
    -- function records: inside, no data
    ∷ funcs 0 8 [] little
    -- function records: inside, one record
    ∷ funcs 1 8 (88 ∷ 69 ∷ 12 ∷ 91 ∷ 40 ∷ 228 ∷ 252 ∷ 4 ∷ []) little
    -- function records: inside, one record, with a tail
    ∷ funcs 1 9 (104 ∷ 18 ∷ 167 ∷ 86 ∷ 211 ∷ 146 ∷ 189 ∷ 163 ∷ 194 ∷ []) little
    -- function records: inside, records
    ∷ funcs 2 8 (48 ∷ 85 ∷ 35 ∷ 12 ∷ 120 ∷ 233 ∷ 206 ∷ 117 ∷ 96 ∷ 127 ∷ 27 ∷ 213 ∷ 189 ∷ 188 ∷ 42 ∷ 70 ∷ []) little
    -- function records: inside, records, with a tail
    ∷ funcs 2 9 (64 ∷ 184 ∷ 63 ∷ 50 ∷ 82 ∷ 83 ∷ 75 ∷ 92 ∷ 40 ∷ 104 ∷ 224 ∷ 27 ∷ 9 ∷ 9 ∷ 217 ∷ 8 ∷ 73 ∷ 38 ∷ []) little
    ∷ [])
    ≡ (
    func_info 0 (func 306145205 2450105330 ∷ []) (181 ∷ 103 ∷ 63 ∷ 18 ∷ 242 ∷ 163 ∷ 9 ∷ 146 ∷ [])
    ∷ panicked
    ∷ func_info 0 [] []
    ∷ panicked
    ∷ func_info 0 [] []
    ∷ func_info 0 [] []
    ∷ func_info 1 (func 190941355 83682344 ∷ []) (171 ∷ 136 ∷ 97 ∷ 11 ∷ 40 ∷ 228 ∷ 252 ∷ 4 ∷ [])
    ∷ func_info 1 (func 181723725 2747110099 ∷ []) (77 ∷ 226 ∷ 212 ∷ 10 ∷ 211 ∷ 146 ∷ 189 ∷ 163 ∷ [])
    ∷ func_info 2 (func 25455270 1976494456 ∷ func 446918636 1177205949 ∷ []) (166 ∷ 106 ∷ 132 ∷ 1 ∷ 120 ∷ 233 ∷ 206 ∷ 117 ∷ 236 ∷ 111 ∷ 163
    ∷ 26 ∷ 189 ∷ 188 ∷ 42 ∷ 70 ∷ [])
    ∷ func_info 2 (func 105379592 1548440402 ∷ func 19102733 1225316617 ∷ []) (8 ∷ 247 ∷ 71 ∷ 6 ∷ 82 ∷ 83 ∷ 75 ∷ 92 ∷ 13 ∷ 124 ∷ 35 ∷ 1 ∷ 9
    ∷ 217 ∷ 8 ∷ 73 ∷ [])
    ∷ [])
unfolding u32_at chunks read_at read_func_info read_line_info parse_func parse_line crate_func_info_bytes crate_line_info_bytes
vectors_2 = refl

vectors_3 : (
    -- function records: off the grid, a later record
    funcs 2 8 (0 ∷ 187 ∷ 213 ∷ 69 ∷ 53 ∷ 51 ∷ 54 ∷ 255 ∷ 222 ∷ 47 ∷ 185 ∷ 19 ∷ 43 ∷ 63 ∷ 214 ∷ 126 ∷ []) little
    -- function records: off the grid, the first record
    ∷ funcs 1 8 (149 ∷ 106 ∷ 9 ∷ 236 ∷ 177 ∷ 247 ∷ 5 ∷ 112 ∷ []) little
    -- function records: size 0, data
    ∷ funcs 0 0 (57 ∷ 197 ∷ 163 ∷ 120 ∷ 44 ∷ 173 ∷ 215 ∷ 96 ∷ []) little
    -- function records: size 0, no data
    ∷ funcs 0 0 [] little
    -- function records: the last record cut to 4 bytes or more
    ∷ funcs 2 8 (136 ∷ 26 ∷ 21 ∷ 27 ∷ 239 ∷ 73 ∷ 114 ∷ 157 ∷ 56 ∷ 28 ∷ 164 ∷ 227 ∷ []) little
    -- function records: the last record cut to less than 4 bytes
    ∷ funcs 2 8 (48 ∷ 253 ∷ 206 ∷ 234 ∷ 156 ∷ 133 ∷ 34 ∷ 188 ∷ 72 ∷ []) little
    -- function records: the last record without all its tail
    ∷ funcs 2 11 (128 ∷ 242 ∷ 86 ∷ 233 ∷ 129 ∷ 131 ∷ 240 ∷ 38 ∷ 42 ∷ 129 ∷ 86 ∷ 232 ∷ 142 ∷ 240 ∷ 146 ∷ 22 ∷ 116 ∷ 90 ∷ 168 ∷ []) little
    -- function records: the only record cut to 4 bytes or more
    ∷ funcs 1 8 (0 ∷ 129 ∷ 214 ∷ 125 ∷ []) little
    -- function records: the only record cut to less than 4 bytes
    ∷ funcs 1 8 (80 ∷ []) little
    -- function records: the only record without all its tail
    ∷ funcs 1 15 (64 ∷ 35 ∷ 144 ∷ 154 ∷ 138 ∷ 65 ∷ 106 ∷ 105 ∷ []) little
    ∷ [])
    ≡ (
    func_info 2 (func 146454368 4281742133 ∷ func 41362939 2127970091 ∷ []) (96 ∷ 183 ∷ 186 ∷ 8 ∷ 53 ∷ 51 ∷ 54 ∷ 255 ∷ 251 ∷ 37 ∷ 119 ∷ 2
    ∷ 43 ∷ 63 ∷ 214 ∷ 126 ∷ [])
    ∷ func_info 1 (func 495005010 1879439281 ∷ []) (82 ∷ 45 ∷ 129 ∷ 29 ∷ 177 ∷ 247 ∷ 5 ∷ 112 ∷ [])
    ∷ panicked
    ∷ panicked
    ∷ panicked
    ∷ panicked
    ∷ func_info 2 (func 489348688 653296513 ∷ func 308154845 2824500246 ∷ []) (80 ∷ 222 ∷ 42 ∷ 29 ∷ 129 ∷ 131 ∷ 240 ∷ 38 ∷ 221 ∷ 17 ∷ 94 ∷ 18
    ∷ 22 ∷ 116 ∷ 90 ∷ 168 ∷ [])
    ∷ panicked
    ∷ panicked
    ∷ func_info 1 (func 324142184 1768571274 ∷ []) (104 ∷ 4 ∷ 82 ∷ 19 ∷ 138 ∷ 65 ∷ 106 ∷ 105 ∷ [])
    ∷ [])
unfolding u32_at chunks read_at read_func_info read_line_info parse_func parse_line crate_func_info_bytes crate_line_info_bytes
vectors_3 = refl

vectors_4 : (
    -- line records, big: inside, one record
    lines 1 16 (150 ∷ 120 ∷ 22 ∷ 104 ∷ 173 ∷ 142 ∷ 37 ∷ 100 ∷ 3 ∷ 155 ∷ 133 ∷ 238 ∷ 197 ∷ 211 ∷ 33 ∷ 248 ∷ []) big
    -- line records, big: inside, one record, with a tail
    ∷ lines 1 17 (164 ∷ 20 ∷ 117 ∷ 128 ∷ 149 ∷ 60 ∷ 244 ∷ 60 ∷ 202 ∷ 43 ∷ 131 ∷ 131 ∷ 244 ∷ 12 ∷ 2 ∷ 30 ∷ 88 ∷ []) big
    -- line records, big: inside, records
    ∷ lines 2 16 (78 ∷ 18 ∷ 163 ∷ 0 ∷ 218 ∷ 52 ∷ 145 ∷ 213 ∷ 45 ∷ 109 ∷ 21 ∷ 222 ∷ 119 ∷ 19 ∷ 200 ∷ 73 ∷ 85 ∷ 7 ∷ 197 ∷ 216 ∷ 15 ∷ 63 ∷ 180
    ∷ 121 ∷ 104 ∷ 246 ∷ 6 ∷ 33 ∷ 33 ∷ 225 ∷ 83 ∷ 184 ∷ []) big
    -- line records, big: inside, records, with a tail
    ∷ lines 2 17 (137 ∷ 216 ∷ 117 ∷ 216 ∷ 10 ∷ 1 ∷ 7 ∷ 115 ∷ 228 ∷ 234 ∷ 225 ∷ 37 ∷ 143 ∷ 117 ∷ 41 ∷ 170 ∷ 147 ∷ 9 ∷ 255 ∷ 14 ∷ 224 ∷ 99 ∷ 129
    ∷ 108 ∷ 164 ∷ 230 ∷ 9 ∷ 100 ∷ 39 ∷ 249 ∷ 39 ∷ 26 ∷ 171 ∷ 57 ∷ []) big
    -- line records, big: off the grid, a later record
    ∷ lines 2 16 (102 ∷ 5 ∷ 30 ∷ 184 ∷ 187 ∷ 13 ∷ 116 ∷ 64 ∷ 18 ∷ 71 ∷ 107 ∷ 201 ∷ 153 ∷ 163 ∷ 38 ∷ 58 ∷ 177 ∷ 206 ∷ 152 ∷ 27 ∷ 14 ∷ 241 ∷ 101
    ∷ 2 ∷ 26 ∷ 11 ∷ 4 ∷ 241 ∷ 4 ∷ 76 ∷ 57 ∷ 244 ∷ []) big
    -- line records, big: off the grid, the first record
    ∷ lines 1 16 (4 ∷ 237 ∷ 35 ∷ 57 ∷ 5 ∷ 222 ∷ 56 ∷ 75 ∷ 104 ∷ 196 ∷ 252 ∷ 6 ∷ 12 ∷ 155 ∷ 182 ∷ 182 ∷ []) big
    -- line records, big: the last record without all its tail
    ∷ lines 2 17 (149 ∷ 8 ∷ 249 ∷ 192 ∷ 144 ∷ 236 ∷ 87 ∷ 65 ∷ 149 ∷ 120 ∷ 37 ∷ 177 ∷ 45 ∷ 222 ∷ 107 ∷ 164 ∷ 157 ∷ 144 ∷ 11 ∷ 93 ∷ 96 ∷ 50 ∷ 140
    ∷ 215 ∷ 111 ∷ 195 ∷ 10 ∷ 220 ∷ 50 ∷ 54 ∷ 154 ∷ 37 ∷ 231 ∷ []) big
    -- line records, big: the only record without all its tail
    ∷ lines 1 34 (124 ∷ 151 ∷ 77 ∷ 88 ∷ 207 ∷ 101 ∷ 56 ∷ 127 ∷ 226 ∷ 183 ∷ 166 ∷ 4 ∷ 199 ∷ 60 ∷ 158 ∷ 206 ∷ []) big
    -- line records: a count that is too large, data
    ∷ lines 2 16 (96 ∷ 79 ∷ 162 ∷ 223 ∷ 32 ∷ 136 ∷ 119 ∷ 87 ∷ 155 ∷ 89 ∷ 191 ∷ 196 ∷ 197 ∷ 143 ∷ 170 ∷ 174 ∷ []) little
    -- line records: a count that is too large, no data
    ∷ lines 1 16 [] little
    ∷ [])
    ≡ (
    line_info 1 (line 315556557 2911774052 60524014 3318948344 ∷ []) (205 ∷ 2 ∷ 207 ∷ 18 ∷ 100 ∷ 37 ∷ 142 ∷ 173 ∷ 238 ∷ 133 ∷ 155 ∷ 3 ∷ 248
    ∷ 33 ∷ 211 ∷ 197 ∷ [])
    ∷ line_info 1 (line 344100528 2503799868 3391849347 4094427678 ∷ []) (176 ∷ 142 ∷ 130 ∷ 20 ∷ 60 ∷ 244 ∷ 60 ∷ 149 ∷ 131 ∷ 131 ∷ 43 ∷ 202
    ∷ 30 ∷ 2 ∷ 12 ∷ 244 ∷ [])
    ∷ line_info 2 (line 163730528 3660878293 762123742 1997785161 ∷ line 178321595 255833209 1760953889 568415160 ∷ []) (96 ∷ 84 ∷ 194 ∷ 9
    ∷ 213 ∷ 145 ∷ 52 ∷ 218 ∷ 222 ∷ 21 ∷ 109 ∷ 45 ∷ 73 ∷ 200 ∷ 19 ∷ 119 ∷ 187 ∷ 248 ∷ 160 ∷ 10 ∷ 121 ∷ 180 ∷ 63 ∷ 15 ∷ 33 ∷ 6 ∷ 246
    ∷ 104 ∷ 184 ∷ 83 ∷ 225 ∷ 33 ∷ [])
    ∷ line_info 2 (line 289083067 167839603 3840598309 2406820266 ∷ line 20963804 1669426340 3859375143 4180089515 ∷ []) (187 ∷ 14 ∷ 59 ∷ 17
    ∷ 115 ∷ 7 ∷ 1 ∷ 10 ∷ 37 ∷ 225 ∷ 234 ∷ 228 ∷ 170 ∷ 41 ∷ 117 ∷ 143 ∷ 220 ∷ 225 ∷ 63 ∷ 1 ∷ 164 ∷ 108 ∷ 129 ∷ 99 ∷ 39 ∷ 100 ∷ 9 ∷ 230
    ∷ 171 ∷ 26 ∷ 39 ∷ 249 ∷ [])
    ∷ line_info 2 (line 213951447 3138221120 306670537 2577606202 ∷ line 372888323 250701058 436929777 72104436 ∷ []) (215 ∷ 163 ∷ 192 ∷ 12
    ∷ 64 ∷ 116 ∷ 13 ∷ 187 ∷ 201 ∷ 107 ∷ 71 ∷ 18 ∷ 58 ∷ 38 ∷ 163 ∷ 153 ∷ 3 ∷ 211 ∷ 57 ∷ 22 ∷ 2 ∷ 101 ∷ 241 ∷ 14 ∷ 241 ∷ 4 ∷ 11 ∷ 26
    ∷ 244 ∷ 57 ∷ 76 ∷ 4 ∷ [])
    ∷ line_info 1 (line 10331239 98449483 1757740038 211531446 ∷ []) (103 ∷ 164 ∷ 157 ∷ 0 ∷ 75 ∷ 56 ∷ 222 ∷ 5 ∷ 6 ∷ 252 ∷ 196 ∷ 104 ∷ 182 ∷ 182
    ∷ 155 ∷ 12 ∷ [])
    ∷ line_info 2 (line 312549176 2431407937 2507679153 769551268 ∷ line 302082988 848090991 3272268850 916071911 ∷ []) (56 ∷ 31 ∷ 161 ∷ 18
    ∷ 65 ∷ 87 ∷ 236 ∷ 144 ∷ 177 ∷ 37 ∷ 120 ∷ 149 ∷ 164 ∷ 107 ∷ 222 ∷ 45 ∷ 172 ∷ 107 ∷ 1 ∷ 18 ∷ 111 ∷ 215 ∷ 140 ∷ 50 ∷ 50 ∷ 220 ∷ 10
    ∷ 195 ∷ 231 ∷ 37 ∷ 154 ∷ 54 ∷ [])
    ∷ line_info 1 (line 261286315 3479517311 3803686404 3342638798 ∷ []) (171 ∷ 233 ∷ 146 ∷ 15 ∷ 127 ∷ 56 ∷ 101 ∷ 207 ∷ 4 ∷ 166 ∷ 183 ∷ 226
    ∷ 206 ∷ 158 ∷ 60 ∷ 199 ∷ [])
    ∷ line_info 2 (line 468994540 1467451424 3300874651 2930413509 ∷ []) (236 ∷ 73 ∷ 244 ∷ 27 ∷ 32 ∷ 136 ∷ 119 ∷ 87 ∷ 155 ∷ 89 ∷ 191 ∷ 196
    ∷ 197 ∷ 143 ∷ 170 ∷ 174 ∷ [])
    ∷ line_info 1 [] []
    ∷ [])
unfolding u32_at chunks read_at read_func_info read_line_info parse_func parse_line crate_func_info_bytes crate_line_info_bytes
vectors_4 = refl

vectors_5 : (
    -- line records: a count that is too small, data
    lines 0 16 (128 ∷ 200 ∷ 39 ∷ 203 ∷ 34 ∷ 194 ∷ 170 ∷ 196 ∷ 22 ∷ 79 ∷ 111 ∷ 176 ∷ 190 ∷ 96 ∷ 114 ∷ 71 ∷ []) little
    -- line records: a size below 16, data
    ∷ lines 1 8 (168 ∷ []) little
    -- line records: a size below 16, no data
    ∷ lines 0 7 [] little
    -- line records: a size below 4, data
    ∷ lines 0 1 (211 ∷ []) little
    -- line records: a size below 4, no data
    ∷ lines 0 3 [] little
    -- line records: inside, no data
    ∷ lines 0 16 [] little
    -- line records: inside, one record
    ∷ lines 1 16 (192 ∷ 242 ∷ 130 ∷ 5 ∷ 109 ∷ 160 ∷ 57 ∷ 124 ∷ 119 ∷ 179 ∷ 19 ∷ 182 ∷ 179 ∷ 14 ∷ 154 ∷ 130 ∷ []) little
    -- line records: inside, one record, with a tail
    ∷ lines 1 17 (200 ∷ 180 ∷ 208 ∷ 61 ∷ 135 ∷ 191 ∷ 124 ∷ 250 ∷ 149 ∷ 146 ∷ 187 ∷ 116 ∷ 92 ∷ 229 ∷ 93 ∷ 86 ∷ 121 ∷ []) little
    -- line records: inside, records
    ∷ lines 2 16 (240 ∷ 159 ∷ 119 ∷ 150 ∷ 197 ∷ 205 ∷ 212 ∷ 65 ∷ 199 ∷ 159 ∷ 128 ∷ 197 ∷ 33 ∷ 241 ∷ 43 ∷ 202 ∷ 168 ∷ 163 ∷ 127 ∷ 82 ∷ 253 ∷ 181
    ∷ 75 ∷ 80 ∷ 254 ∷ 54 ∷ 180 ∷ 148 ∷ 131 ∷ 110 ∷ 118 ∷ 203 ∷ []) little
    -- line records: inside, records, with a tail
    ∷ lines 2 17 (192 ∷ 160 ∷ 75 ∷ 152 ∷ 108 ∷ 55 ∷ 179 ∷ 190 ∷ 123 ∷ 208 ∷ 151 ∷ 93 ∷ 180 ∷ 231 ∷ 165 ∷ 166 ∷ 68 ∷ 216 ∷ 145 ∷ 139 ∷ 6 ∷ 1
    ∷ 239 ∷ 175 ∷ 225 ∷ 177 ∷ 113 ∷ 174 ∷ 233 ∷ 23 ∷ 20 ∷ 248 ∷ 245 ∷ 74 ∷ []) little
    ∷ [])
    ≡ (
    line_info 0 (line 426047760 3299525154 2960084758 1198678206 ∷ []) (16 ∷ 249 ∷ 100 ∷ 25 ∷ 34 ∷ 194 ∷ 170 ∷ 196 ∷ 22 ∷ 79 ∷ 111 ∷ 176
    ∷ 190 ∷ 96 ∷ 114 ∷ 71 ∷ [])
    ∷ panicked
    ∷ line_info 0 [] []
    ∷ panicked
    ∷ line_info 0 [] []
    ∷ line_info 0 [] []
    ∷ line_info 1 (line 11558488 2084151405 3054744439 2191134387 ∷ []) (88 ∷ 94 ∷ 176 ∷ 0 ∷ 109 ∷ 160 ∷ 57 ∷ 124 ∷ 119 ∷ 179 ∷ 19 ∷ 182 ∷ 179
    ∷ 14 ∷ 154 ∷ 130 ∷ [])
    ∷ line_info 1 (line 129635993 4202479495 1958449813 1448994140 ∷ []) (153 ∷ 22 ∷ 186 ∷ 7 ∷ 135 ∷ 191 ∷ 124 ∷ 250 ∷ 149 ∷ 146 ∷ 187 ∷ 116
    ∷ 92 ∷ 229 ∷ 93 ∷ 86 ∷ [])
    ∷ line_info 2 (line 315552766 1104465349 3313541063 3391877409 ∷ line 173012085 1347139069 2494838526 3413536387 ∷ []) (254 ∷ 243 ∷ 206
    ∷ 18 ∷ 197 ∷ 205 ∷ 212 ∷ 65 ∷ 199 ∷ 159 ∷ 128 ∷ 197 ∷ 33 ∷ 241 ∷ 43 ∷ 202 ∷ 117 ∷ 244 ∷ 79 ∷ 10 ∷ 253 ∷ 181 ∷ 75 ∷ 80 ∷ 254 ∷ 54
    ∷ 180 ∷ 148 ∷ 131 ∷ 110 ∷ 118 ∷ 203 ∷ [])
    ∷ line_info 2 (line 319386648 3199416172 1570230395 2795890612 ∷ line 13726267 3786403585 3920523697 4126675991 ∷ []) (24 ∷ 116 ∷ 9 ∷ 19
    ∷ 108 ∷ 55 ∷ 179 ∷ 190 ∷ 123 ∷ 208 ∷ 151 ∷ 93 ∷ 180 ∷ 231 ∷ 165 ∷ 166 ∷ 59 ∷ 114 ∷ 209 ∷ 0 ∷ 1 ∷ 239 ∷ 175 ∷ 225 ∷ 177 ∷ 113
    ∷ 174 ∷ 233 ∷ 23 ∷ 20 ∷ 248 ∷ 245 ∷ [])
    ∷ [])
unfolding u32_at chunks read_at read_func_info read_line_info parse_func parse_line crate_func_info_bytes crate_line_info_bytes
vectors_5 = refl

vectors_6 : (
    -- line records: off the grid, a later record
    lines 2 16 (192 ∷ 227 ∷ 62 ∷ 116 ∷ 253 ∷ 12 ∷ 89 ∷ 37 ∷ 227 ∷ 199 ∷ 52 ∷ 49 ∷ 229 ∷ 156 ∷ 47 ∷ 215 ∷ 9 ∷ 208 ∷ 226 ∷ 231 ∷ 165 ∷ 31 ∷ 37
    ∷ 55 ∷ 86 ∷ 114 ∷ 73 ∷ 5 ∷ 191 ∷ 98 ∷ 249 ∷ 46 ∷ []) little
    -- line records: off the grid, the first record
    ∷ lines 1 16 (103 ∷ 75 ∷ 245 ∷ 80 ∷ 59 ∷ 99 ∷ 145 ∷ 113 ∷ 162 ∷ 8 ∷ 172 ∷ 57 ∷ 118 ∷ 129 ∷ 116 ∷ 239 ∷ []) little
    -- line records: size 0, data
    ∷ lines 0 0 (138 ∷ 211 ∷ 76 ∷ 167 ∷ 158 ∷ 95 ∷ 188 ∷ 207 ∷ 102 ∷ 67 ∷ 148 ∷ 175 ∷ 252 ∷ 164 ∷ 31 ∷ 212 ∷ []) little
    -- line records: size 0, no data
    ∷ lines 0 0 [] little
    -- line records: the last record cut to 4 bytes or more
    ∷ lines 2 16 (152 ∷ 229 ∷ 65 ∷ 172 ∷ 19 ∷ 168 ∷ 175 ∷ 101 ∷ 197 ∷ 4 ∷ 4 ∷ 118 ∷ 170 ∷ 119 ∷ 39 ∷ 147 ∷ 16 ∷ 73 ∷ 165 ∷ 243 ∷ []) little
    -- line records: the last record cut to less than 4 bytes
    ∷ lines 2 16 (184 ∷ 249 ∷ 178 ∷ 140 ∷ 151 ∷ 93 ∷ 237 ∷ 7 ∷ 245 ∷ 109 ∷ 171 ∷ 215 ∷ 238 ∷ 128 ∷ 225 ∷ 114 ∷ 184 ∷ []) little
    -- line records: the last record without all its tail
    ∷ lines 2 17 (208 ∷ 46 ∷ 181 ∷ 91 ∷ 74 ∷ 38 ∷ 234 ∷ 142 ∷ 117 ∷ 255 ∷ 238 ∷ 223 ∷ 101 ∷ 75 ∷ 179 ∷ 71 ∷ 222 ∷ 128 ∷ 145 ∷ 252 ∷ 208 ∷ 5
    ∷ 235 ∷ 191 ∷ 1 ∷ 215 ∷ 77 ∷ 222 ∷ 20 ∷ 51 ∷ 105 ∷ 244 ∷ 169 ∷ []) little
    -- line records: the only record cut to 4 bytes or more
    ∷ lines 1 20 (88 ∷ 7 ∷ 236 ∷ 61 ∷ []) little
    -- line records: the only record cut to less than 4 bytes
    ∷ lines 1 16 (16 ∷ []) little
    -- line records: the only record without all its tail
    ∷ lines 1 29 (96 ∷ 213 ∷ 230 ∷ 208 ∷ 204 ∷ 248 ∷ 66 ∷ 2 ∷ 127 ∷ 180 ∷ 137 ∷ 180 ∷ 205 ∷ 241 ∷ 106 ∷ 59 ∷ []) little
    ∷ [])
    ≡ (
    line_info 2 (line 243784824 626593021 825542627 3610221797 ∷ line 486300161 925179813 88699478 788095679 ∷ []) (120 ∷ 220 ∷ 135 ∷ 14
    ∷ 253 ∷ 12 ∷ 89 ∷ 37 ∷ 227 ∷ 199 ∷ 52 ∷ 49 ∷ 229 ∷ 156 ∷ 47 ∷ 215 ∷ 1 ∷ 90 ∷ 252 ∷ 28 ∷ 165 ∷ 31 ∷ 37 ∷ 55 ∷ 86 ∷ 114 ∷ 73 ∷ 5
    ∷ 191 ∷ 98 ∷ 249 ∷ 46 ∷ [])
    ∷ line_info 1 (line 169781612 1905353531 967575714 4017389942 ∷ []) (108 ∷ 169 ∷ 30 ∷ 10 ∷ 59 ∷ 99 ∷ 145 ∷ 113 ∷ 162 ∷ 8 ∷ 172 ∷ 57 ∷ 118
    ∷ 129 ∷ 116 ∷ 239 ∷ [])
    ∷ panicked
    ∷ panicked
    ∷ panicked
    ∷ panicked
    ∷ line_info 2 (line 192325082 2397709898 3756982133 1202932581 ∷ line 438276656 29354757 350113239 2851367219 ∷ []) (218 ∷ 165 ∷ 118 ∷ 11
    ∷ 74 ∷ 38 ∷ 234 ∷ 142 ∷ 117 ∷ 255 ∷ 238 ∷ 223 ∷ 101 ∷ 75 ∷ 179 ∷ 71 ∷ 48 ∷ 146 ∷ 31 ∷ 26 ∷ 5 ∷ 235 ∷ 191 ∷ 1 ∷ 215 ∷ 77 ∷ 222
    ∷ 20 ∷ 51 ∷ 105 ∷ 244 ∷ 169 ∷ [])
    ∷ panicked
    ∷ panicked
    ∷ line_info 1 (line 438098604 37943500 3028923519 996864461 ∷ []) (172 ∷ 218 ∷ 28 ∷ 26 ∷ 204 ∷ 248 ∷ 66 ∷ 2 ∷ 127 ∷ 180 ∷ 137 ∷ 180 ∷ 205
    ∷ 241 ∷ 106 ∷ 59 ∷ [])
    ∷ [])
unfolding u32_at chunks read_at read_func_info read_line_info parse_func parse_line crate_func_info_bytes crate_line_info_bytes
vectors_6 = refl
