use Rattle.std.proofs.Common.{refl, sym, ap, subst, ◌∙◌, IsTrue, length}
use Rattle.std.proofs.lemmas.Bool.{false≢true}
use Rattle.store_model.specs.Paths.{Path, attribute_key, fits_attribute}
use Rattle.dir_tree.proofs.AttributeLemmas.{same_owner}
use Rattle.dir_tree.proofs.attributes.attribute_of.Goals as goal

pub returns-then-eq : goal.returns-then-eq
returns-then-eq c =
    let same = c.eq.ensures.same.0 c.if-eq.true in
    record {
      named = c.in_ok-owner.ensures.name;
      fits = subst (λ (q : Path). IsTrue (fits_attribute q c.in_ok-owner.name)) same c.in_ok-owner.ensures.fits;
      key_is = refl;
      place_is = sym c.in_ok-owner.ensures.some ∙ ap (λ q. attribute_key q c.in_ok-owner.name) same;
      size = λ bytes short is. ap length (c.as_slice.ensures.value ∙ c.bytes_in.ensures.value bytes short is);
    }

pub returns-else-eq : goal.returns-else-eq
returns-else-eq c name path below named fits key_is =
    let read = c.in_ok-owner.ensures in
    false≢true (sym c.if-eq.false
    ∙ c.eq.ensures.same.1 (same_owner c.in_ok-owner.owner c.args.path.now c.in_ok-owner.name name read.path path
    read.name named read.fits fits (read.some ∙ key_is)))
