-- The commands that a number gives, one after another.
use Rattle.std.specs.Prelude.{ℕ, ◌+◌, ◌*◌, ◌^◌, ◌/◌, ◌%◌, zero, suc, [], ◌∷◌, ◌++◌, ◌==◌, nat_le, if◌then◌else◌, codes}
use Rattle.std.specs.Fmt.{decimal}
use Rattle.std.specs.Int.{w32, to_be_bytes}
use Rattle.store_model.specs.Paths.{Path}
use Rattle.store_model.specs.Commands.{Command}
use Rattle.store_model.specs.Commands.Command.{Make, Write, Cut, Rename, Remove, Read}

-- one step of the linear congruential generator of Knuth's MMIX
abbrev pub next_state : ℕ → ℕ
next_state x = (x * 6364136223846793005 + 1442695040888963407) % 2 ^ 64

-- the state after so many steps
unfoldable pub state_after : ℕ → ℕ → ℕ
state_after number zero = number
state_after number (suc steps) = next_state (state_after number steps)

-- what is drawn in a state: its upper 31 bits
abbrev pub drawn_number : ℕ → ℕ
drawn_number x = x / 2 ^ 33

-- the path of a directory, and of a file in it
abbrev pub directory_path : ℕ → Path
directory_path directory = (codes "d" ++ decimal directory) ∷ []

abbrev pub file_path : ℕ → ℕ → Path
file_path directory file = (codes "d" ++ decimal directory) ∷ (codes "f" ++ decimal file) ∷ []

-- the command of a draw, by its kind: of eight one makes a directory and three write the draw's own four bytes
abbrev pub command_by : ℕ → ℕ → ℕ → ℕ → ℕ → Command
command_by kind directory file other draw =
    if kind == 0 then Make (directory_path directory)
    else (if nat_le kind 3 then Write (file_path directory file) 0 (to_be_bytes w32 draw)
    else (if kind == 4 then Cut (file_path directory file) 2
    else (if kind == 5 then Remove (file_path directory file)
    else (if kind == 6 then Rename (file_path directory file) (file_path other file)
    else Read (file_path directory file) 0 4))))

-- eight directories, sixteen files in each, and a second directory for a file to go to
abbrev pub command_of_draw : ℕ → Command
command_of_draw draw = command_by (draw / 128 % 8) (draw % 8) (draw / 8 % 16) (draw / 1024 % 8) draw

-- the command with this place, from 0, of those that a number gives
unfoldable pub generated : ℕ → ℕ → Command
generated number place = command_of_draw (drawn_number (state_after number (place + 1)))
