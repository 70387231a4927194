-- Scripts: lists of calls as bytes. A script is items one after the other. An item is a kind (1 byte), the size of its argument (3 bytes, little-endian), and the argument.
-- A script ends at its first malformed item, or else at its end.
use Rattle.std.specs.Prelude.{ℕ, zero, suc, ◌+◌, ◌-◌, ◌*◌, ◌%◌, List, [], ◌∷◌, cond, ◌&&◌, length, get_or, take, drop, eqb, leb, Option, Some, None}
use Rattle.lists.specs.Words.{words}
use Rattle.model.specs.CallLists.{Call, open_file, offer_labels, sweep-labels, turn_edges, draw_chart}

-- the size of the argument of the item that the bytes begin with
abbrev pub argument_size : List ℕ → ℕ
argument_size s = get_or s 1 0 + 256 * get_or s 2 0 + 65536 * get_or s 3 0

-- a call that has no argument; none where one is there
abbrev pub alone : Call → List ℕ → Option Call
alone c a = cond (eqb (length a) 0) (Some c) None

-- turn: the direction, then numbers of two bytes, at most 1200; so an odd number of bytes, at most 2401
unfoldable pub turn_item : List ℕ → Option Call
turn_item a = cond (eqb (length a % 2) 1 && leb (length a) 2401) (Some (turn_edges (words (drop 1 a)) (get_or a 0 0))) None

-- The call of a kind with its argument; none where there is no such kind or the argument is not one of its kind
unfoldable pub call_of : ℕ → List ℕ → Option Call
call_of kind a =
    cond (eqb kind 1) (Some (open_file a))
    (cond (eqb kind 2) (Some (offer_labels a))
    (cond (eqb kind 3) (alone sweep-labels a)
    (cond (eqb kind 4) (turn_item a)
    (cond (eqb kind 5) (alone draw_chart a)
    None))))

-- The call of the item that the bytes begin with; none where that item is malformed
unfoldable pub call_at : List ℕ → Option Call
call_at s = cond (leb 4 (length s) && leb (argument_size s) (length s - 4)) (call_of (get_or s 0 0) (take (argument_size s) (drop 4 s))) None

-- what stands behind that item
abbrev pub behind : List ℕ → List ℕ
behind s = drop (4 + argument_size s) s

-- a call and those that follow it; no calls where the item is malformed
abbrev pub with_later : Option Call → List Call → List Call
with_later None later = []
with_later (Some c) later = c ∷ later

-- the calls of the bytes, item after item up to the first malformed one, as far as the fuel lasts
unfoldable pub calls_from : ℕ → List ℕ → List Call
calls_from zero s = []
calls_from (suc fuel) s = let later = calls_from fuel (behind s) in with_later (call_at s) later

-- what follows an item; the item itself with all behind it where it is malformed
abbrev pub if_called : Option Call → List ℕ → List ℕ → List ℕ
if_called None later s = s
if_called (Some c) later s = later

-- the bytes from the first malformed item on, as far as the fuel lasts; no bytes where every item is well formed
unfoldable pub rest_from : ℕ → List ℕ → List ℕ
rest_from zero s = s
rest_from (suc fuel) s = let later = rest_from fuel (behind s) in if_called (call_at s) later s

-- The calls of a script. An item has 4 bytes or more, so the script's length is fuel enough.
unfoldable pub calls_of : List ℕ → List Call
calls_of script = calls_from (length script) script

-- Where a script ends: its length, or the offset of its first malformed item
unfoldable pub end_of : List ℕ → ℕ
end_of script = length script - length (rest_from (length script) script)

-- who unfolds this unfolds all of the above: for facts that are computed
unfoldable pub scripts_computes : Unit {0}
unfolding turn_item call_of call_at calls_from rest_from calls_of end_of
scripts_computes = tt
