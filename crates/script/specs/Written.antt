-- The script of a list of calls, and which calls a script can hold.
use Rattle.std.specs.Prelude.{ℕ, ◌/◌, ◌%◌, ◌^◌, ◌≤◌, ◌<◌, length}
use mathlib.Core.List.{List, [], ◌∷◌, ◌++◌, Memᴰ}
use Rattle.lists.specs.Words.{bytes}
use Rattle.model.specs.CallLists.{Call, open_file, offer_labels, sweep-labels, turn_edges, draw_chart}

-- an item of a kind with its argument
abbrev pub item : ℕ → List ℕ → List ℕ
item kind a = kind ∷ length a % 256 ∷ length a / 256 % 256 ∷ length a / 65536 ∷ a

-- the item of a call
unfoldable pub item_of : Call → List ℕ
item_of (open_file b) = item 1 b
item_of (offer_labels ls) = item 2 ls
item_of sweep-labels = item 3 []
item_of (turn_edges items direction) = item 4 (direction ∷ bytes items)
item_of draw_chart = item 5 []

-- The script of a list of calls
unfoldable pub script_of : List Call → List ℕ
script_of [] = []
script_of (c ∷ cs) = item_of c ++ script_of cs

-- every entry is below k
abbrev pub Below : ℕ → List ℕ → Type 0
Below k l = (a : ℕ) → Memᴰ a l → a < k

-- an argument that an item can hold: fewer than 2 ^ 24 bytes of a file or of labels; at most 1200 numbers of two bytes and a direction of one
abbrev pub FitsItem : Call → Type 0
FitsItem (open_file b) = Below 256 b × (length b < 2 ^ 24)
FitsItem (offer_labels ls) = Below 256 ls × (length ls < 2 ^ 24)
FitsItem sweep-labels = Unit {0}
FitsItem (turn_edges items direction) = Below 65536 items × (length items ≤ 1200) × (direction < 256)
FitsItem draw_chart = Unit {0}

-- every call of a list has such an argument
abbrev pub AllFitItems : List Call → Type 0
AllFitItems [] = Unit {0}
AllFitItems (c ∷ cs) = FitsItem c × AllFitItems cs
