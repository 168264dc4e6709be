-- Where links lead.
use Rattle.std.specs.Prelude.{◌≡◌, ℕ, ◌==◌, nat_lt, List, length, Option, Some, None, IsTrue, if◌then◌else◌}
use Rattle.std.specs.List.{list_any}
use Rattle.std.specs.Str.{is_utf8}
use Rattle.store_model.specs.Lists.{zero_filled}
use Rattle.store_model.specs.Trees.{attribute_limit}
use Rattle.host_builder.specs.HostAttributes.{is_target}
use Rattle.host_folders.specs.declared.target.NoTarget.{NoTarget}
use Rattle.host_folders.specs.declared.target.NoTarget.TheVariants as faults

-- why bytes say no target of a link, if they say none
abbrev pub target_fault : List ℕ → Option NoTarget
target_fault bytes = if length bytes == 0 then Some faults.Empty
    else if nat_lt attribute_limit (length bytes) then Some faults.TooLong
    else if list_any (λ byte. byte == 0) bytes then Some faults.ZeroByte
    else if is_utf8 bytes then None
    else Some faults.NotUtf8

-- the bytes are a target and zeros, and the number is the target's length
pub record IsTargetField (bytes : List ℕ) (len : ℕ) (target : List ℕ) : Type 0 where
  pub valid : IsTrue (is_target target)
  pub bytes_are : bytes ≡ zero_filled attribute_limit target
  pub len_is : len ≡ length target
