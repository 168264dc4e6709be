use Rattle.std.proofs.Common.{◌≡◌, ap, sym, subst, ◌∙◌, List, ℕ, Some, slice_index}
use Rattle.std.proofs.lemmas.Bool.{false≢true}
use Rattle.std.specs.Cmp.Lexicographic.{bytes_decides}
use Rattle.store_model.specs.declared.version.Version.{Version}
use Rattle.store_model.specs.declared.version.Version.TheVariants.{One}
use Rattle.store_model.specs.Parameters.{Parameters, IsParameters, with_version}
use Rattle.store_model.specs.Images.{header, kind_byte, version_byte}
use Rattle.store_model.proofs.ImagesLemmas.{IsParameters-with_version}
use Rattle.store_base.proofs.HeaderBytes.{header-kind, header-version, header-read, IfOk-result_ok}
use Rattle.store_base.proofs.header.read_header.Goals as goal

-- the byte of the kind in a header
kind_there : (p : Parameters) (block : List ℕ) → header p ≡ block → kind_byte p.kind ≡ slice_index block 13
kind_there p block is_header = sym (header-kind p) ∙ ap (λ (b : List ℕ). slice_index b 13) is_header

-- and that of the version
version_there : (p : Parameters) (block : List ℕ) → header p ≡ block → version_byte p.version ≡ slice_index block 14
version_there p block is_header = sym (header-version p) ∙ ap (λ (b : List ℕ). slice_index b 14) is_header

-- parameters that are those of a header but for the version, under its version
whole : (p named params : Parameters) (version : Version) → named ≡ with_version p One → Some version ≡ Some p.version
    → params ≡ with_version named version → params ≡ p
whole p named params version named_is some_version is =
    let version_is : version ≡ p.version = cc in
    is ∙ ap (λ (q : Parameters). with_version q version) named_is ∙ ap (with_version p) version_is

pub returns-in_err-kind-clause-only : goal.returns-in_err-kind-clause-only
returns-in_err-kind-clause-only c = λ p valid is_header. let none =
    c.in_err-kind.ensures.only p.kind (kind_there p c.args.block.now is_header) in cc

pub returns-in_err-version-clause-only : goal.returns-in_err-version-clause-only
returns-in_err-version-clause-only c = λ p valid is_header. let none =
    c.in_err-version.ensures.only p.version (version_there p c.args.block.now is_header) in cc

pub returns-in_err-named-clause-only : goal.returns-in_err-named-clause-only
returns-in_err-named-clause-only c = λ p valid is_header.
    let kind = c.in_ok-kind.ensures.only p.kind (kind_there p c.args.block.now is_header) in
    let read = header-read p c.args.block.now c.copy_from_slice.new.self c.copy_from_slice-2.new.self
    c.from_be_bytes.result c.in_ok-kind.kind
    valid is_header c.copy_from_slice.ensures.after c.from_be_bytes.ensures kind c.copy_from_slice-2.ensures.after in
    absurd (false≢true (c.in_err-named.ensures.variant
    ∙ c.new.ensures.exact.1 (subst IsParameters (sym read) (IsParameters-with_version p One valid))))

pub returns-then-eq-clause-only : goal.returns-then-eq-clause-only
returns-then-eq-clause-only c = λ p valid is_header.
    let kind = c.in_ok-kind.ensures.only p.kind (kind_there p c.args.block.now is_header) in
    let version = c.in_ok-version.ensures.only p.version (version_there p c.args.block.now is_header) in
    let read = header-read p c.args.block.now c.copy_from_slice.new.self c.copy_from_slice-2.new.self
    c.from_be_bytes.result c.in_ok-kind.kind
    valid is_header c.copy_from_slice.ensures.after c.from_be_bytes.ensures kind c.copy_from_slice-2.ensures.after in
    let named = IfOk-result_ok c.new.result c.in_ok-named.named _ c.in_ok-named.ensures.value c.new.ensures.value ∙ read
    in
    ap Some (whole p c.in_ok-named.named c.with_version-params.result c.in_ok-version.version named version
    c.with_version-params.ensures.value)

pub returns-else-eq-clause-only : goal.returns-else-eq-clause-only
returns-else-eq-clause-only c = λ p valid is_header.
    let kind = c.in_ok-kind.ensures.only p.kind (kind_there p c.args.block.now is_header) in
    let version = c.in_ok-version.ensures.only p.version (version_there p c.args.block.now is_header) in
    let read = header-read p c.args.block.now c.copy_from_slice.new.self c.copy_from_slice-2.new.self
    c.from_be_bytes.result c.in_ok-kind.kind
    valid is_header c.copy_from_slice.ensures.after c.from_be_bytes.ensures kind c.copy_from_slice-2.ensures.after in
    let named = IfOk-result_ok c.new.result c.in_ok-named.named _ c.in_ok-named.ensures.value c.new.ensures.value ∙ read
    in
    let params = whole p c.in_ok-named.named c.with_version-params.result c.in_ok-version.version named version
    c.with_version-params.ensures.value in
    let written = c.write_header.ensures ∙ ap header params ∙ is_header in
    absurd (false≢true (sym c.if-eq.false ∙ c.eq.ensures
    ∙ (bytes_decides c.write_header.new.block c.args.block.now).1 written))
