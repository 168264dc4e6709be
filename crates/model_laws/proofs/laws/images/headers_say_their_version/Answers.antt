use Rattle.std.proofs.Common.{◌≡◌, ◌⊎◌, refl, inl, inr}
use Rattle.store_model.specs.declared.version.Version.{Version}
use Rattle.store_model.specs.declared.version.Version.TheVariants.{One, Two}
use Rattle.store_model.specs.Lists.{zero_filled}
use Rattle.store_model.specs.Images.{version_byte, header}
use Rattle.model_laws.proofs.laws.images.headers_say_their_version.Goals as goal

known : (version : Version) → (version_byte version ≡ 1) ⊎ (version_byte version ≡ 2)
known One = inl refl
known Two = inr refl

pub returns-clause-byte : goal.returns-clause-byte
unfolding header zero_filled
returns-clause-byte c p = refl

pub returns-clause-known : goal.returns-clause-known
returns-clause-known c p = known p.version
