-- Where the bytes lie that a reader of lines holds.
use Rattle.std.specs.Prelude.{◌≡◌, ◌-◌, ◌≤◌, ℕ, []}
use Rattle.store_model.specs.Scripts.{line_limit}
use Rattle.script_lines.specs.SourceState.{SourceState, IsObservable}

-- the room of a reader: a line, and 64 KiB to take more bytes into
abbrev pub reader_room : ℕ
reader_room = 73728

-- the bytes held, and the line that was answered, lie in the buffer, and no more was taken than may be
pub record IsPlaced (size start end text_start text_end taken limit : ℕ) : Type 0 where
  pub is_whole : size ≡ reader_room
  pub held : start ≤ end
  pub within : end ≤ size
  pub text : text_start ≤ text_end
  pub text_within : text_end ≤ size
  pub text_fits : text_end - text_start ≤ line_limit
  pub in_limit : taken ≤ limit

-- nothing is held, and nothing is left in the source
pub record IsAtEnd (source : SourceState) (start end : ℕ) : Type 0 where
  pub none_held : end ≡ start
  pub none_left : IsObservable source → source.left ≡ []
