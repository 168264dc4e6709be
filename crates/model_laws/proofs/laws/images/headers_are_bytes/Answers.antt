use Rattle.std.proofs.Common.{ℕ, ◌<◌, ◌-◌, ◌++◌, ◌∷◌, List, length, codes, arith}
use Rattle.std.specs.Int.{w32, to_be_bytes}
use Rattle.std.specs.List.{AllByRecursion}
use Rattle.store_model.specs.declared.draw_kind.DrawKind.{DrawKind}
use Rattle.store_model.specs.declared.draw_kind.DrawKind.TheVariants.{Ruler, Sha256}
use Rattle.store_model.specs.declared.version.Version.{Version}
use Rattle.store_model.specs.declared.version.Version.TheVariants.{One, Two}
use Rattle.store_model.specs.Lists.{zero_filled}
use Rattle.store_model.specs.Parameters.{Parameters}
use Rattle.store_model.specs.Images.{kind_byte, version_byte, header}
use Rattle.store_model.proofs.ListsLemmas.{all_append, all_replicate, all_from_bytes, be_bytes_are_bytes}
use Rattle.store_model.proofs.ListsLemmas.{bytes_from_all}
use Rattle.model_laws.proofs.laws.images.headers_are_bytes.Goals as goal

kind_is_byte : (kind : DrawKind) → kind_byte kind < 256
kind_is_byte Ruler = omega arith
kind_is_byte Sha256 = omega arith

version_is_byte : (version : Version) → version_byte version < 256
version_is_byte One = omega arith
version_is_byte Two = omega arith

front : Parameters → List ℕ
front p = codes "HSTORE01" ++ to_be_bytes w32 p.slots ++ p.height ∷ kind_byte p.kind
    ∷ version_byte p.version ∷ 0 ∷ p.seed

pub returns : goal.returns
unfolding header zero_filled front
returns c p valid =
    let height : p.height < 256 = let high = valid.height_in_range in omega arith in
    let name : AllByRecursion (λ x. x < 256) (codes "HSTORE01") = (
      omega arith,
      (omega arith, (omega arith, (omega arith, (omega arith, (omega arith, (omega arith, (omega arith, tt))))))),
    ) in
    bytes_from_all (header p)
    (all_append (λ x. x < 256) (front p) _
    (all_append (λ x. x < 256) (codes "HSTORE01" ++ to_be_bytes w32 p.slots)
    (p.height ∷ kind_byte p.kind ∷ version_byte p.version ∷ 0 ∷ p.seed)
    (all_append (λ x. x < 256) (codes "HSTORE01") (to_be_bytes w32 p.slots) name (be_bytes_are_bytes p.slots))
    (height, (kind_is_byte p.kind, (version_is_byte p.version, (omega arith, all_from_bytes p.seed valid.seed_bytes)))))
    (all_replicate (λ x. x < 256) (4096 - length (front p)) 0 (omega arith)))
