-- The examiner on worked inputs, from bytes: images that are accepted, ours and others, and one smallest input for each number. Computed.
-- Assumes nothing.
use mathlib.Core.Path.{◌≡◌, refl}
use mathlib.Core.List.{List, [], ◌∷◌, ◌++◌}
use Prim.Native.Nat.{ℕ}
use Rattle.rules.specs.Object.{is_call, is_blank, is_wide_load, decide, meaning, displacement, calling, referring}
use Rattle.rules.specs.Link.{run, visit, append, link}
use Rattle.rules.specs.Bytes.{little, u16_at, u32_at, u64_at, signed, unsigned, decode, encode, decoded, encoded, padded}
use Rattle.rules.specs.Answers.{Reply, reply}
use Rattle.rules.specs.Tables.{object_of}
use Rattle.rules.specs.Records.{image_functions, image_lines, room_for, stray_line, admits, link_step}
use Rattle.rules.specs.Rows.{Offered, code_section, symbol_index, symbol_section, symbol_address, symbol_kind, function_section, function_slots, function_address, function_offset, function_func_info, function_line_info, relocation_section, relocation_symbol, relocation_offset, relocation_size, record_slot, record_type, record_file, record_line, record_column, is_good, first_broken, total, too_many, broken_in, broken, link_refusal, tables_of}
use Rattle.rules.specs.Entries.{link_entry, link_list, PiecesResult, link_pieces_entry}
use Rattle.rules.specs.Pieces.{piece_row, piece_start, pieces_of, pieces_bytes}
use Rattle.rules.specs.Examine.{shown, claim_of, size_wrong, sizes_wrong, root_wrong, piece_wrong, tiles_wrong, same_form, same_head, same_slot, starts_at, slot_wrong, same_function_record, same_line_record, piece_functions, piece_lines, function_wrong, line_wrong, stray_wrong, slots_wrong, wrong_in, over_wrong, pieces_wrong, claim_wrong, examine_refusal, examine_entry}
use Rattle.rules.proofs.Worked.{u32, zeros, function, relocation, func_info, line_info, joined, exit, call, minus_one, wide, second, offer, lent, one_callee, own_call, nested, reference, lined, spoiled}

-- immediate −2
abbrev minus_two : ℕ
minus_two = 0xFFFF_FFFE

-- a piece: its function and its start
abbrev at : ℕ → ℕ → List ℕ
at row start = u32 row ++ u32 start

-- what the examiner says of an image, its records, function and line, and a list
abbrev said : Offered → ℕ → List (List ℕ) → List (List ℕ) → List (List ℕ) → List (List ℕ) → Reply
said o root image funcs lines pieces = examine_entry little o root (shown (joined image) (joined funcs) (joined lines) (joined pieces))

-- a root of one slot, row 1, and a function of two whose slot 1 is given
abbrev strange : List (List ℕ) → List ℕ → Offered
strange relocations slot =
    offer (u32 1 ∷ u32 2 ∷ []) [] (function 1 2 0 0 0 0 ∷ function 2 1 0 0 0 0 ∷ []) relocations (exit ∷ slot ∷ exit ∷ []) [] []

-- a root of two slots that calls itself, with line records that 12 refuses of its copy
abbrev own_stray : Offered
own_stray = offer (u32 1 ∷ []) [] (function 1 2 0 0 0 2 ∷ []) [] (call minus_one ∷ exit ∷ []) [] (line_info 10 ∷ line_info 9 ∷ [])

pub examined : (
    -- ---- yes, and how many pieces
    -- document 01's root that calls itself, with the image that it names
    (said own_call 0 (call 1 ∷ exit ∷ call minus_one ∷ exit ∷ []) (func_info 0 11 ∷ func_info 2 11 ∷ []) [] (at 0 0 ∷ at 0 2 ∷ []) ≡ reply 0 2 0 0)
    -- the root alone: its own piece will do
    × (said own_call 0 (call minus_one ∷ exit ∷ []) (func_info 0 11 ∷ []) [] (at 0 0 ∷ []) ≡ reply 0 1 0 0)
    -- "root calls F, H, exits; F calls G, exits; G, H 1 slot": our image, depth first
    × (said nested 0 (call 2 ∷ call 4 ∷ exit ∷ call 1 ∷ exit ∷ exit ∷ exit ∷ []) (func_info 0 11 ∷ func_info 3 12 ∷ func_info 5 13 ∷ func_info 6 14 ∷ []) [] (at 0 0 ∷ at 1 3 ∷ at 2 5 ∷ at 3 6 ∷ []) ≡ reply 0 4 0 0)
    -- the same breadth first: root, F, H, G
    × (said nested 0 (call 2 ∷ call 3 ∷ exit ∷ call 2 ∷ exit ∷ exit ∷ exit ∷ []) (func_info 0 11 ∷ func_info 3 12 ∷ func_info 5 14 ∷ func_info 6 13 ∷ []) [] (at 0 0 ∷ at 1 3 ∷ at 3 5 ∷ at 2 6 ∷ []) ≡ reply 0 4 0 0)
    -- a function twice: root, F, G, H and G again, which F calls
    × (said nested 0 (call 2 ∷ call 4 ∷ exit ∷ call 3 ∷ exit ∷ exit ∷ exit ∷ exit ∷ []) (func_info 0 11 ∷ func_info 3 12 ∷ func_info 5 13 ∷ func_info 6 14 ∷ func_info 7 13 ∷ []) [] (at 0 0 ∷ at 1 3 ∷ at 2 5 ∷ at 3 6 ∷ at 2 7 ∷ []) ≡ reply 0 5 0 0)
    -- a function that nobody calls; it calls the root
    × (said one_callee 0 (exit ∷ call minus_two ∷ exit ∷ exit ∷ []) (func_info 0 11 ∷ func_info 1 12 ∷ []) [] (at 0 0 ∷ at 1 1 ∷ []) ≡ reply 0 2 0 0)
    -- a reference
    × (said reference 1 (wide 0x41 2 ∷ second 0 ∷ exit ∷ exit ∷ []) (func_info 0 12 ∷ func_info 3 11 ∷ []) [] (at 1 0 ∷ at 0 3 ∷ []) ≡ reply 0 2 0 0)
    -- line records that move with their function
    × (said (lined (10 ∷ 10 ∷ 11 ∷ [])) 1 (call 2 ∷ exit ∷ exit ∷ exit ∷ exit ∷ []) [] (line_info 5 ∷ line_info 3 ∷ line_info 3 ∷ line_info 4 ∷ []) (at 1 0 ∷ at 0 3 ∷ []) ≡ reply 0 2 0 0)
    -- line records of a root that 12 would refuse of any other
    × (said (lined (10 ∷ 12 ∷ [])) 0 (exit ∷ exit ∷ []) [] (line_info 10 ∷ line_info 12 ∷ []) (at 0 0 ∷ []) ≡ reply 0 1 0 0)
    -- such a root that calls itself, with its own piece for its copy; the link, which appends the copy, refuses it (`listed`)
    × (said own_stray 0 (call minus_one ∷ exit ∷ []) [] (line_info 10 ∷ line_info 9 ∷ []) (at 0 0 ∷ []) ≡ reply 0 1 0 0)
    -- and with the copy: 12
    × (said own_stray 0 (call 1 ∷ exit ∷ call minus_one ∷ exit ∷ []) [] (line_info 10 ∷ line_info 9 ∷ line_info 2 ∷ line_info 1 ∷ []) (at 0 0 ∷ at 0 2 ∷ []) ≡ reply 12 0 1 0)
    -- ---- the tables and the root, before what is shown: here nothing
    -- 1: 65 code sections, a byte too few in table 2, no such root
    × (said (spoiled (run u32 0 65) (zeros 23 ∷ [])) 9 [] [] [] [] ≡ reply 1 1 0 0)
    -- 2: that byte, no such root
    × (said (spoiled (u32 1 ∷ []) (zeros 23 ∷ [])) 9 [] [] [] [] ≡ reply 2 2 0 0)
    -- 13: no such root
    × (said own_call 9 [] [] [] [] ≡ reply 13 0 0 0)
    -- ---- sizes: the image, function records, line records, the list
    -- 33: 256 function records and a byte
    × (said own_call 0 [] (zeros 2049 ∷ []) (zeros 15 ∷ []) [] ≡ reply 33 7 0 0)
    -- 33: 4,096 slots and a byte
    × (said own_call 0 (zeros 32769 ∷ []) (zeros 2049 ∷ []) [] [] ≡ reply 33 6 0 0)
    -- 33: 4,096 pieces and a byte
    × (said own_call 0 [] [] [] (zeros 32769 ∷ []) ≡ reply 33 9 0 0)
    -- 34: a part of a slot
    × (said own_call 0 (zeros 7 ∷ []) (zeros 9 ∷ []) [] [] ≡ reply 34 6 0 0)
    -- 34: a function record and a part
    × (said own_call 0 [] (zeros 9 ∷ []) (zeros 15 ∷ []) [] ≡ reply 34 7 1 0)
    -- 34: a part of a line record
    × (said own_call 0 [] [] (zeros 15 ∷ []) (zeros 7 ∷ []) ≡ reply 34 8 0 0)
    -- 34: a piece and a part
    × (said own_call 0 [] [] [] (at 0 0 ∷ zeros 7 ∷ []) ≡ reply 34 9 1 0)
    -- ---- the pieces
    -- 35: none
    × (said own_call 0 [] [] [] [] ≡ reply 35 0 0 0)
    -- 35: the first starts elsewhere
    × (said own_call 0 [] [] [] (at 0 1 ∷ []) ≡ reply 35 0 0 0)
    -- 35: the first is another function
    × (said nested 0 [] [] [] (at 1 0 ∷ []) ≡ reply 35 0 0 0)
    -- 36: piece 1 is of row 7, which is none, wherever it starts
    × (said own_call 0 [] [] [] (at 0 0 ∷ at 7 9 ∷ []) ≡ reply 36 1 7 0)
    -- 37: piece 1 starts in piece 0, which ends at 2
    × (said own_call 0 [] [] [] (at 0 0 ∷ at 0 1 ∷ []) ≡ reply 37 1 2 0)
    -- 37: piece 1 leaves a slot out
    × (said own_call 0 [] [] [] (at 0 0 ∷ at 0 3 ∷ []) ≡ reply 37 1 2 0)
    -- 38: one piece ends at 2, the image at 3
    × (said own_call 0 (exit ∷ exit ∷ exit ∷ []) [] [] (at 0 0 ∷ []) ≡ reply 38 1 2 0)
    -- 38: the image ends at 0
    × (said own_call 0 [] [] [] (at 0 0 ∷ []) ≡ reply 38 1 2 0)
    -- ---- a slot
    -- 39: an exit with another register byte
    × (said own_call 0 (call minus_one ∷ (0x95 ∷ 1 ∷ zeros 6) ∷ []) [] [] (at 0 0 ∷ []) ≡ reply 39 0 1 1)
    -- 39: an exit with another immediate
    × (said own_call 0 (call minus_one ∷ (0x95 ∷ zeros 6 ++ (1 ∷ [])) ∷ []) [] [] (at 0 0 ∷ []) ≡ reply 39 0 1 1)
    -- 39: a call with another source register, in piece 1
    × (said own_call 0 (call 1 ∷ exit ∷ (0x85 ∷ 0x20 ∷ 0 ∷ 0 ∷ u32 minus_one) ∷ exit ∷ []) (func_info 0 11 ∷ []) [] (at 0 0 ∷ at 0 2 ∷ []) ≡ reply 39 1 0 2)
    -- 40: a reference that kept its source register, in piece 1; its source names row 0
    × (said reference 0 (exit ∷ wide 0x01 minus_two ∷ second 0 ∷ exit ∷ []) (func_info 0 11 ∷ []) [] (at 0 0 ∷ at 1 1 ∷ []) ≡ reply 40 1 0 0)
    -- 41: a reference to no start
    × (said reference 1 (wide 0x41 1 ∷ second 0 ∷ exit ∷ exit ∷ []) [] [] (at 1 0 ∷ at 0 3 ∷ []) ≡ reply 41 0 0 0)
    -- 41: a call to before the image
    × (said own_call 0 (call minus_two ∷ exit ∷ []) [] [] (at 0 0 ∷ []) ≡ reply 41 0 0 0)
    -- 41: the call of H goes to the start of F
    × (said nested 0 (call 2 ∷ call 1 ∷ exit ∷ call 1 ∷ exit ∷ exit ∷ exit ∷ []) [] [] (at 0 0 ∷ at 1 3 ∷ at 2 5 ∷ at 3 6 ∷ []) ≡ reply 41 0 1 3)
    -- 10: the source calls where no function starts, in piece 1, of row 0; the image has it as it is
    × (said (strange [] (call 5)) 1 (exit ∷ exit ∷ call 5 ∷ []) [] [] (at 1 0 ∷ at 0 1 ∷ []) ≡ reply 10 0 1 0)
    -- 3: the source's symbol is not in table 2
    × (said (strange (relocation 1 9 8 32 ∷ []) (call minus_one)) 1 (exit ∷ exit ∷ call minus_one ∷ []) [] [] (at 1 0 ∷ at 0 1 ∷ []) ≡ reply 3 0 1 0)
    -- ---- the records
    -- 42: there is none
    × (said own_call 0 (call minus_one ∷ exit ∷ []) [] [] (at 0 0 ∷ []) ≡ reply 42 0 0 0)
    -- 42: another type
    × (said own_call 0 (call minus_one ∷ exit ∷ []) (func_info 0 12 ∷ []) [] (at 0 0 ∷ []) ≡ reply 42 0 0 0)
    -- 42: piece 1's is not at its start
    × (said own_call 0 (call 1 ∷ exit ∷ call minus_one ∷ exit ∷ []) (func_info 0 11 ∷ func_info 0 11 ∷ []) [] (at 0 0 ∷ at 0 2 ∷ []) ≡ reply 42 1 0 1)
    -- 12: piece 1's record 1, of row 0
    × (said (lined (10 ∷ 12 ∷ [])) 1 (call 2 ∷ exit ∷ exit ∷ exit ∷ exit ∷ []) [] (line_info 5 ∷ []) (at 1 0 ∷ at 0 3 ∷ []) ≡ reply 12 0 1 0)
    -- 43: piece 1's record 2, the image's 3
    × (said (lined (10 ∷ 10 ∷ 11 ∷ [])) 1 (call 2 ∷ exit ∷ exit ∷ exit ∷ exit ∷ []) [] (line_info 5 ∷ line_info 3 ∷ line_info 3 ∷ line_info 5 ∷ []) (at 1 0 ∷ at 0 3 ∷ []) ≡ reply 43 1 2 3)
    -- 44: function record 1 is over
    × (said own_call 0 (call minus_one ∷ exit ∷ []) (func_info 0 11 ∷ func_info 2 11 ∷ []) (line_info 0 ∷ []) (at 0 0 ∷ []) ≡ reply 44 7 1 0)
    -- 44: line record 0 is over
    × (said own_call 0 (call minus_one ∷ exit ∷ []) (func_info 0 11 ∷ []) (line_info 0 ∷ []) (at 0 0 ∷ []) ≡ reply 44 8 0 0)
    -- a piece's records come before the next piece's slots: 42, and not 39
    × (said own_call 0 (call 1 ∷ exit ∷ exit ∷ exit ∷ []) (func_info 0 12 ∷ []) [] (at 0 0 ∷ at 0 2 ∷ []) ≡ reply 42 0 0 0)
    )
unfolding is_call is_blank is_wide_load decide meaning u16_at u32_at u64_at signed decode decoded object_of stray_line
    code_section symbol_index symbol_section symbol_address symbol_kind function_section function_slots function_address function_offset function_func_info function_line_info relocation_section relocation_symbol relocation_offset relocation_size record_slot record_type record_file record_line record_column
    is_good first_broken total too_many broken_in broken link_refusal tables_of piece_row piece_start pieces_of claim_of size_wrong sizes_wrong root_wrong piece_wrong tiles_wrong
    same_form same_head same_slot starts_at slot_wrong same_function_record same_line_record piece_functions piece_lines function_wrong line_wrong stray_wrong slots_wrong wrong_in over_wrong pieces_wrong claim_wrong examine_refusal examine_entry
examined = (refl, refl, refl, refl, refl, refl, refl, refl, refl, refl, refl, refl, refl, refl, refl, refl, refl, refl, refl, refl, refl, refl, refl, refl, refl, refl, refl, refl, refl, refl, refl, refl, refl, refl, refl, refl, refl, refl, refl, refl, refl, refl, refl, refl, refl, refl)

-- ---- the link's own list, in order of placing, and zero after it

-- number and places, and the list's bytes
abbrev given : PiecesResult → Reply × List ℕ
given r = (r.link.reply, r.pieces)

pub listed : (
    given (link_pieces_entry little nested 0 (lent 7 4 0) 41) ∷ given (link_pieces_entry little reference 1 (lent 4 2 0) 24)
    -- 11: no room for the callee's slots
    ∷ given (link_pieces_entry little reference 1 (lent 3 2 0) 24)
    -- 32: a byte less than table 3's two rows and one more take, before 13
    ∷ given (link_pieces_entry little reference 9 (lent 4 2 0) 23)
    -- 12: the copy of a root that calls itself
    ∷ given (link_pieces_entry little own_stray 0 (lent 4 0 4) 16) ∷ [])
    ≡ (reply 0 7 4 0, joined (at 0 0 ∷ at 1 3 ∷ at 2 5 ∷ at 3 6 ∷ zeros 9 ∷ []))
    ∷ (reply 0 4 2 0, joined (at 1 0 ∷ at 0 3 ∷ zeros 8 ∷ []))
    ∷ (reply 11 0 0 0, zeros 24)
    ∷ (reply 32 0 0 0, zeros 23)
    ∷ (reply 12 0 1 0, zeros 16) ∷ []
unfolding is_call is_blank is_wide_load decide meaning displacement calling referring visit append link
    u16_at u32_at u64_at signed unsigned decode encode decoded encoded padded object_of image_functions image_lines room_for stray_line admits link_step
    code_section symbol_index symbol_section symbol_address symbol_kind function_section function_slots function_address function_offset function_func_info function_line_info relocation_section relocation_symbol relocation_offset relocation_size record_slot record_type record_file record_line record_column
    is_good first_broken total too_many broken_in broken link_refusal tables_of link_entry link_list pieces_bytes link_pieces_entry
listed = refl
