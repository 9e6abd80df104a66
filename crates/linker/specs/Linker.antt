-- What the linker's contracts say: the image's buffers hold a state of the link step (rules, specs/Link), and each function takes
-- one such state to the next.
-- Assumes nothing.
use Rattle.std.specs.Prelude.{◌≡◌, ◌≢◌, Bool, true, false, List, [], ◌∷◌, ℕ, suc, ◌+◌, ◌-◌, ◌*◌, ◌≤◌, ◌<◌, eqb, length, get_or, take, drop, replicate, Result, Ok, Err, IfOk, IfErr}
use Rattle.std.proofs.Math.Option.{Option, none, some}
use Rattle.rules.specs.declared.Places.{Places}
use Rattle.rules.specs.declared.Refusal as told
use Rattle.rules.specs.declared.Table.TheVariants.{Functions, Instructions, FuncInfo, LineInfo}
use Rattle.rules.specs.Object.{displacement}
use Rattle.rules.specs.Faithful.{Piece}
use Rattle.rules.specs.Bytes.{little, decoded, immediate_stored, source_stored}
use Rattle.rules.specs.Link as Link
use Rattle.rules.specs.Link.{Outcome, linked, refuses, unfinished, start_of, visit, append}
use Rattle.rules.specs.Tables.{object_of}
use Rattle.rules.specs.Records.{image_functions, image_lines, admits, link_step}
use Rattle.rules.specs.Answers.{reply_of, refused_reply}
use Rattle.rules.specs.Lent.{Buffers, lent_by}
use Rattle.rules.specs.Rows.{row_size, most_rows, whole_rows, Offered, function_slots, summed, tables_of, link_refusal, most_image_slots, most_image_functions, most_image_lines}
use Rattle.rules.specs.Lookups.{LinkChecked}
use Rattle.rules.specs.Entries.{func_info_bytes, line_info_bytes, refusal_reply, Outputs, room_in, LinkResult, refused_link, by_outcome, link_entry, PiecesResult}
use Rattle.linker.specs.declared.State.{State}
use Rattle.linker.specs.declared.Linked.{Linked}
use Rattle.linker.specs.declared.Listed.{Listed}

-- a start as the array has it
abbrev pub start_number : Option ℕ → ℕ
start_number none = 0
start_number (some start) = start

-- how many rows have no start yet
abbrev pub tally : Bool → ℕ → ℕ
tally true n = suc n
tally false n = n

unfoldable pub unplaced : List ℕ → ℕ
unplaced [] = 0
unplaced (s ∷ ss) = tally (eqb s 0) (unplaced ss)

-- counts and buffers that fit each other, zero after what is used
pub record Valid (st : State) (b : Buffers) : Type 0 where
  pub long : length st.starts ≡ most_rows Functions
  pub some_slot : 1 ≤ st.used.slots
  pub most : st.used.slots ≤ most_image_slots
  pub slots : row_size Instructions * st.used.slots ≤ length b.image
  pub funcs : row_size FuncInfo * st.used.funcs ≤ length b.funcs
  pub lines : row_size LineInfo * st.used.lines ≤ length b.lines
  pub most_funcs : st.used.funcs ≤ most_image_functions
  pub most_lines : st.used.lines ≤ most_image_lines
  pub starts : (row : ℕ) → get_or st.starts row 0 < most_image_slots
  pub image_rest : drop (row_size Instructions * st.used.slots) b.image ≡ replicate (length b.image - row_size Instructions * st.used.slots) 0
  pub funcs_rest : drop (row_size FuncInfo * st.used.funcs) b.funcs ≡ replicate (length b.funcs - row_size FuncInfo * st.used.funcs) 0
  pub lines_rest : drop (row_size LineInfo * st.used.lines) b.lines ≡ replicate (length b.lines - row_size LineInfo * st.used.lines) 0

-- what has a start keeps it
pub record Grown (before after : State) : Type 0 where
  pub starts : (row : ℕ) → get_or before.starts row 0 ≢ 0 → get_or after.starts row 0 ≡ get_or before.starts row 0
  pub slots : before.used.slots ≤ after.used.slots

-- the starts of the functions that are placed, as the array has them
abbrev pub StartsAre : Offered → List Piece → List ℕ → Type 0
StartsAre o placed starts = (row : ℕ) → row < whole_rows Functions o.functions → get_or starts row 0 ≡ start_number (start_of row placed)

-- the buffers hold this state of the link step
pub record Holds (o : Offered) (root : ℕ) (st : State) (b : Buffers) (s : Link.State) : Type 0 where
  pub slots : st.used.slots ≡ length s.image
  pub image : decoded little (take (row_size Instructions * st.used.slots) b.image) ≡ s.image
  pub funcs_count : st.used.funcs ≡ length (image_functions (tables_of little o) root s.placed)
  pub funcs : take (row_size FuncInfo * st.used.funcs) b.funcs ≡ func_info_bytes little (image_functions (tables_of little o) root s.placed)
  pub lines_count : st.used.lines ≡ length (image_lines (tables_of little o) root s.placed)
  pub lines : take (row_size LineInfo * st.used.lines) b.lines ≡ line_info_bytes little (image_lines (tables_of little o) root s.placed)
  pub starts : StartsAre o s.placed st.starts
  pub positive : (row start : ℕ) → start_of row s.placed ≡ some start → 1 ≤ start

-- what a step answers, with the buffers behind it, is this outcome
abbrev pub Agrees : Offered → ℕ → Result State told.Refusal → Buffers → Outcome → Type 0
Agrees o root (Ok st) b (linked s) = Holds o root st b s
Agrees o root (Err r) b (linked s) = ⊥
Agrees o root (Ok st) b (refuses why) = ⊥
Agrees o root (Err r) b (refuses why) = refused_reply r ≡ refusal_reply why
Agrees o root r b unfinished = ⊥

-- the link step's two functions, over the tables' bytes: fuel for every row
abbrev pub adding : Offered → Outputs → ℕ → ℕ → Link.State → Outcome
adding o lent root row s = append (object_of (tables_of little o)) (admits (tables_of little o) (room_in lent) root) (object_of (tables_of little o)).rows row s

abbrev pub visiting : Offered → Outputs → ℕ → ℕ → ℕ → ℕ → ℕ → Link.State → Outcome
visiting o lent root row start count slot s = visit (object_of (tables_of little o)) (adding o lent root) row start count slot s

-- with its callee placed, appended first if it is not yet
abbrev pub placing : Offered → Outputs → ℕ → Option ℕ → ℕ → Link.State → Outcome
placing o lent root (some start) callee s = linked s
placing o lent root none callee s = adding o lent root callee s

-- what a step of the recursion asks
pub record Asks (o : Offered) (st : State) (b : Buffers) (row : ℕ) : Type 0 where
  pub checked : LinkChecked o
  pub valid : Valid st b
  pub row_in : row < whole_rows Functions o.functions

-- and what it gives, whatever the root
pub record Gives (o : Offered) (st : State) (b : Buffers) (r : Result State told.Refusal) (b' : Buffers) (outcome : ℕ → Link.State → Outcome) : Type 0 where
  pub valid : IfOk r (λ now. Valid now b')
  pub grown : IfOk r (λ now. Grown st now)
  pub lengths : lent_by b' ≡ lent_by b
  pub agrees : (root : ℕ) (s : Link.State) → Holds o root st b s → Agrees o root r b' (outcome root s)

pub record Adds (o : Offered) (st : State) (b : Buffers) (row : ℕ) : Type 0 where
  pub asks : Asks o st b row
  pub fresh : get_or st.starts row 0 ≡ 0

pub record Added (o : Offered) (st : State) (b : Buffers) (row : ℕ) (r : Result State told.Refusal) (b' : Buffers) : Type 0 where
  pub gives : Gives o st b r b' (λ root. adding o (lent_by b) root row)
  pub start : IfOk r (λ now. get_or now.starts row 0 ≡ st.used.slots)

pub record Placed (o : Offered) (st : State) (b : Buffers) (callee : ℕ) (r : Result State told.Refusal) (b' : Buffers) : Type 0 where
  pub gives : Gives o st b r b' (λ root s. placing o (lent_by b) root (start_of callee s.placed) callee s)
  pub start : IfOk r (λ now. get_or st.starts callee 0 ≡ 0 → get_or now.starts callee 0 ≡ st.used.slots)

pub record Visits (o : Offered) (st : State) (b : Buffers) (row start first : ℕ) : Type 0 where
  pub asks : Asks o st b row
  pub fits : start + function_slots o.functions row ≤ st.used.slots
  pub begins : first ≡ summed (function_slots o.functions) 0 row

abbrev pub Visited : Offered → State → Buffers → ℕ → ℕ → Result State told.Refusal → Buffers → Type 0
Visited o st b row start r b' = Gives o st b r b' (λ root. visiting o (lent_by b) root row start (function_slots o.functions row) 0)

-- a call, or a reference, rewritten in place
abbrev pub pointed_to : Bool → List ℕ → ℕ → ℕ → List ℕ
pointed_to false image here start = immediate_stored little image here (displacement start here)
pointed_to true image here start = immediate_stored little (source_stored little 4 image here) here (displacement start here)

-- ---- the entry

-- "The image starts as the root": checked tables, and outputs that are zero everywhere
pub record Starts (o : Offered) (root : ℕ) (b : Buffers) : Type 0 where
  pub checked : LinkChecked o
  pub root_in : root < whole_rows Functions o.functions
  pub image : b.image ≡ replicate (length b.image) 0
  pub funcs : b.funcs ≡ replicate (length b.funcs) 0
  pub lines : b.lines ≡ replicate (length b.lines) 0

abbrev pub step_result : Offered → ℕ → Outputs → LinkResult
step_result o root lent = by_outcome little (tables_of little o) root lent (link_step (tables_of little o) (room_in lent) root)

-- the reply and all three outputs
pub record Outcomes (b : Buffers) (a : Result Places told.Refusal) (result : LinkResult) : Type 0 where
  pub reply : reply_of a ≡ result.reply
  pub image : b.image ≡ result.image
  pub funcs : b.funcs ≡ result.func_info
  pub lines : b.lines ≡ result.line_info

-- of the state that a link ends in: its starts, and an image within the limit
pub record Accounts (o : Offered) (s : Link.State) (starts : List ℕ) : Type 0 where
  pub starts_are : StartsAre o s.placed starts
  pub few : length s.image ≤ most_image_slots

-- outputs of the same lengths, zero everywhere
pub record Wiped (b b' : Buffers) : Type 0 where
  pub image : b'.image ≡ replicate (length b.image) 0
  pub funcs : b'.funcs ≡ replicate (length b.funcs) 0
  pub lines : b'.lines ≡ replicate (length b.lines) 0

-- the answer of what also gives starts, or a list
abbrev pub answer_of : Result Linked told.Refusal → Result Places told.Refusal
answer_of (Ok l) = Ok l.places
answer_of (Err why) = Err why

abbrev pub list_answer : Result Listed told.Refusal → Result Places told.Refusal
list_answer (Ok l) = Ok l.places
list_answer (Err why) = Err why

abbrev pub list_count : Result Listed told.Refusal → ℕ
list_count (Ok l) = l.count
list_count (Err why) = 0

-- the answer is the step's, and so are the outputs, but that a refusal has still to zero them; the starts are the last state's
pub record Ended (o : Offered) (root : ℕ) (b b' : Buffers) (r : Result Linked told.Refusal) : Type 0 where
  pub lengths : lent_by b' ≡ lent_by b
  pub done : IfOk r (λ l. Outcomes b' (Ok l.places) (step_result o root (lent_by b)))
  pub refused : IfErr r (λ why. step_result o root (lent_by b) ≡ refused_link (lent_by b) (refused_reply why))
  pub accounts : IfOk r (λ l. (s : Link.State) → link_step (tables_of little o) (room_in (lent_by b)) root ≡ linked s → Accounts o s l.starts)

-- the link's outcomes, and the starts of an accepted one
pub record StartedOutcomes (o : Offered) (root : ℕ) (lent : Outputs) (b : Buffers) (r : Result Linked told.Refusal) : Type 0 where
  pub outcomes : Outcomes b (answer_of r) (link_entry little o root lent)
  pub accounts : IfOk r (λ l. link_refusal o root ≡ none → (s : Link.State) → link_step (tables_of little o) (room_in lent) root ≡ linked s → Accounts o s l.starts)

-- the reply and all four outputs, and how many pieces there are
pub record ListedOutcomes (b : Buffers) (list : List ℕ) (r : Result Listed told.Refusal) (result : PiecesResult) : Type 0 where
  pub outcomes : Outcomes b (list_answer r) result.link
  pub pieces : list ≡ result.pieces
  pub counted : list_count r ≡ length result.list
