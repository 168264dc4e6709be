-- Why a call on a file is refused, by what stands at its path.
use Rattle.std.specs.Prelude.{◌≡◌, ℕ, ◌+◌, List, [], ◌∷◌, Bool, true, false, Option, Some, None, Result, MatchResult}
use Rattle.std.specs.Prelude.{nat_lt}
use Rattle.store_model.specs.declared.refusal.Refusal.{Refusal}
use Rattle.store_model.specs.declared.refusal.Refusal.TheVariants as refusals
use Rattle.store_model.specs.Trees.{file_limit}
use Rattle.store_model.specs.Steps.{Condition, first_refusal, read_limit}
use Rattle.tree_pairs.specs.declared.kind.Kind.{Kind}
use Rattle.tree_pairs.specs.declared.kind.Kind.TheVariants.{Directory, File}

-- how many bytes stand there
abbrev pub size_of : Option Kind → ℕ
size_of None = 0
size_of (Some Directory) = 0
size_of (Some (File size)) = size

abbrev pub is_absent : Option Kind → Bool
is_absent None = true
is_absent (Some kind) = false

abbrev pub is_dir : Option Kind → Bool
is_dir None = false
is_dir (Some Directory) = true
is_dir (Some (File size)) = false

-- the conditions under which bytes are not put, the file is not cut and bytes are not read, in their order
abbrev pub write_conditions : Option Kind → ℕ → ℕ → List Condition
write_conditions kind at count = (is_dir kind, refusals.Kind) ∷ (nat_lt (size_of kind) at, refusals.Gap)
    ∷ (nat_lt file_limit (at + count), refusals.Big) ∷ []

abbrev pub cut_conditions : Option Kind → ℕ → List Condition
cut_conditions kind len = (is_absent kind, refusals.Missing) ∷ (is_dir kind, refusals.Kind)
    ∷ (nat_lt (size_of kind) len, refusals.Gap) ∷ []

abbrev pub read_conditions : Option Kind → ℕ → ℕ → List Condition
read_conditions kind at len = (is_absent kind, refusals.Missing) ∷ (is_dir kind, refusals.Kind)
    ∷ (nat_lt (size_of kind) at, refusals.Gap) ∷ (nat_lt read_limit len, refusals.Big) ∷ []

-- a number where no condition holds, and else the refusal of the first that does
abbrev pub IsUnless : List Condition → ℕ → Result ℕ Refusal → Type 0
IsUnless conditions value result = MatchResult result (λ n. (first_refusal conditions ≡ None) × (n ≡ value))
    (λ refusal. first_refusal conditions ≡ Some refusal)
