-- What scrubbing, wiping and making an image leaves, also where it is cut short.
use Rattle.std.proofs.Common.{◌≡◌, ◌≢◌, ◌⊎◌, ℕ, zero, suc, List, length, take, slice_index, refl, sym, ap}
use Rattle.std.proofs.Common.{subst, ◌∙◌, inl, inr, ⊎_elim, arith}
use Rattle.std.proofs.lemmas.Bool.{cases_eq, false≢true}
use Rattle.store_model.specs.Lists.{zeros}
use Rattle.store_model.specs.Parameters.{Parameters, image_len}
use Rattle.store_model.specs.Trees.{Tree}
use Rattle.store_model.specs.Images.{first_byte, Represents, scrubbed}
use Rattle.store_model.proofs.ImagesLemmasScrubbed.{scrubbed-recovered, scrubbed-layout, take-scrubbed}
use Rattle.store_model.proofs.TreesLemmasLayouts.{layouts_tell}
use Rattle.store_base.specs.Counts.{Rose}
use Rattle.disk_model.specs.DiskState.{IsDurable}
use Rattle.disk_model.proofs.Images.{SameOutside-empty}
use Rattle.gate_journal.specs.Wipes.{IsWiping}
use Rattle.gate_journal.proofs.Formatting.{no_image}
use Rattle.image_check.proofs.Images.{one_name}
use Rattle.scrub_free.specs.Scrubbing.{ScrubsAs}
use Rattle.scrub_free.specs.ScrubCalls.{ScrubsTo, IsScrubVerdict}
use Rattle.script_lines.specs.Memory.{source_state, sink_state}
use Rattle.image_subcommands.specs.declared.status.Status.{Status}
use Rattle.image_subcommands.specs.declared.status.Status.TheVariants.{Done, DiskFault, NoMemory, AlreadyImage}
use Rattle.image_subcommands.specs.declared.status.Status.TheVariants.{WrongLength}
use Rattle.image_subcommands.specs.FormatCall.{FormatsDisk, IsFormat}
use Rattle.image_subcommands.specs.Outside.{outside_of, KeepsOutside}
use Rattle.image_subcommands.specs.ScrubCall.{IsScrub, ScrubsToSome}
use Rattle.image_subcommands.specs.Statuses.{Subcommand as words, IsStatusOf, IsJudged, MayComeFirst}
use Rattle.image_subcommands.specs.WipeCall.{IsWipe}
use Rattle.store_claims.specs.declared.machines.Machine.{Machine}
use Rattle.store_claims.specs.Machines.{Disk, Ended, bytes_of, meaning}
use Rattle.store_claims.specs.ImageMachines.{given}
use Rattle.store_claims.specs.Checks.{MightLeave}
use Rattle.store_claims.specs.Images.{ScrubsExactly, ScrubsAgain, IsGoneOrWhole, WipesAllOrNone, MakesBehindWipe}
use Rattle.store_claims.proofs.Checking.{JudgedBy, exactly, judges_exactly}

-- ---- one is scrubbed

-- an image that represents a tree scrubs to its layout
represented_scrubs : (image : List ℕ) (t : Tree) (p : Parameters) → Represents image t p → ScrubsTo image t p
represented_scrubs image t p is = record {
  image_is = record { names = is.names; length_is = is.length_is };
  tree = is.tree;
  fits = is.fits;
  layout_is = sym (scrubbed-recovered p.slots image is.length_is) ∙ ap (scrubbed p.slots) is.layout_is
      ∙ scrubbed-layout t p is.names.in_range is.tree is.fits;
}

-- an image scrubs to one tree's
one_scrubbed : (image : List ℕ) (t u : Tree) (p q : Parameters) → ScrubsTo image t p
    → ScrubsTo image u q → (t ≡ u) × (p ≡ q)
one_scrubbed image t u p q h g =
    let same : p ≡ q = one_name image q p g.image_is h.image_is in
    layouts_tell t u p q h.image_is.names.in_range g.image_is.names.in_range h.tree g.tree h.fits g.fits
    (sym h.layout_is ∙ ap (λ (r : Parameters). scrubbed r.slots image) same ∙ g.layout_is)

-- what scrubs to the same as an image scrubs to the same tree's
scrubs_alike : (old image : List ℕ) (t : Tree) (p : Parameters) → ScrubsTo old t p
    → ScrubsAs p.slots old image → ScrubsTo image t p
scrubs_alike old image t p to same =
    let long : length image ≡ image_len p.slots = same.same_length ∙ to.image_is.length_is in
    record {
      image_is = record {
        names = record {
          in_range = to.image_is.names.in_range;
          header_is = sym (take-scrubbed p.slots image long) ∙ ap (take 4096) same.scrubs
              ∙ take-scrubbed p.slots old to.image_is.length_is ∙ to.image_is.names.header_is;
        };
        length_is = long;
      };
      tree = to.tree;
      fits = to.fits;
      layout_is = same.scrubs ∙ to.layout_is;
    }

by_scrub : (disk : Disk)
    → JudgedBy (ScrubsTo (bytes_of disk)) disk (IsScrubVerdict (meaning disk)) (ScrubsToSome (meaning disk))
by_scrub disk = record {
  one = one_scrubbed (bytes_of disk);
  clean = λ pages dirs files count is.
      let scrubs = is.scrubs refl in
      record { tree = scrubs.tree; params = is.params; holds = scrubs.scrubs; verdict_is = scrubs.verdict_is };
  none = λ is. is;
  broken = λ is. record { image = (is.params, is.has_parameters.named refl); none = is.no_tree refl };
  beyond = λ is. record {
    params = is.image.0;
    has_parameters = record {
      in_range = is.image.1.names.in_range;
      size_is = is.image.1.length_is;
      named = λ observable. is.image.1;
    };
    no_tree = λ observable. is.none;
  };
  some = λ some. (some.tree, some.params, some.scrubs);
  whole = λ some. record { tree = some.0; params = some.1; scrubs = some.2 };
}

pub scrub_exact : (machine : Machine) (after : Ended) → IsScrub meaning sink_state (given machine) after
    → ScrubsExactly after.status (meaning machine.disk) (meaning after.disk) (sink_state machine.sink)
    (sink_state after.sink)
scrub_exact machine after is =
    let old = bytes_of machine.disk in
    let seen = is.observed refl in
    record {
      judges = judges_exactly (by_scrub machine.disk) after.status (meaning after.disk) machine.sink after.sink
          seen.ends is.report is.silent;
      still = λ t p to. scrubs_alike old (bytes_of after.disk) t p to (seen.scrubs t p to).reads;
      tree = λ so t p represents. (seen.scrubs t p (represented_scrubs old t p represents)).scrubbed so;
    }

-- Three scrubs: one of an image on which nothing was pending, which was perhaps cut short; one of what a crash of it
-- might have left; and one of the same image as the first, which ended with 0.
pub scrub_cut_short : (cut : Machine) (cut_after : Ended) (again : Machine) (again_after : Ended) (whole : Machine)
    (whole_after : Ended) → IsScrub meaning sink_state (given cut) cut_after
    → IsScrub meaning sink_state (given again) again_after → IsScrub meaning sink_state (given whole) whole_after
    → IsDurable (meaning cut.disk) → MightLeave (meaning cut.disk) (meaning cut_after.disk) (bytes_of again.disk)
    → bytes_of whole.disk ≡ bytes_of cut.disk → whole_after.status ≡ Done
    → ScrubsAgain (bytes_of whole_after.disk) again_after.status (meaning again_after.disk)
scrub_cut_short cut cut_after again again_after whole whole_after first second third durable left same done =
    let some = (third.observed refl).ends.clean.only done in
    let t = some.tree in
    let p = some.params in
    let to : ScrubsTo (bytes_of cut.disk) t p = subst (λ (bytes : List ℕ). ScrubsTo bytes t p) same some.scrubs in
    let scrubs = (first.observed refl).scrubs t p to in
    let here : ScrubsTo (bytes_of again.disk) t p =
    ⊎_elim (λ before. subst (λ (bytes : List ℕ). ScrubsTo bytes t p) (sym (durable (bytes_of again.disk) before)) to)
    (λ alike. scrubs_alike (bytes_of cut.disk) (bytes_of again.disk) t p to alike)
    (scrubs.crash.each (bytes_of again.disk) left) in
    let next = (second.observed refl).scrubs t p here in
    let last = (third.observed refl).scrubs t p some.scrubs in
    record {
      ends = (second.observed refl).ends.clean.always (record { tree = t; params = p; scrubs = here });
      same = λ is. (next.scrubbed is).layout_is ∙ sym (last.scrubbed (subst IsJudged (sym done) refl)).layout_is;
      durable = λ is. (next.scrubbed is).durable;
    }

-- ---- a disk is wiped

first_of_zeros : (n : ℕ) → slice_index (zeros n) 0 ≡ 0
first_of_zeros zero = refl
first_of_zeros (suc n) = refl

zeros_are_no_image : (bytes : List ℕ) (n : ℕ) → bytes ≡ zeros n → slice_index bytes 0 ≡ first_byte → ⊥
zeros_are_no_image bytes n is first = omega (arith, ap (λ (l : List ℕ). slice_index l 0) is, first_of_zeros n, first)

-- bytes that begin as an image does, with another first byte, are no image
gone_or_whole : (old image : List ℕ) → slice_index old 0 ≡ first_byte → IsWiping old image → IsGoneOrWhole old image
gone_or_whole old image first (inl torn) = elim (cases_eq (slice_index image 0) first_byte) [
  | inl same ↦
      let all : (i : ℕ) → slice_index image i ≡ slice_index old i = alike same in
      inr (SameOutside-empty 0 old image (record {
        same_length = torn.same_length;
        below = λ i low. all i;
        above = λ i low. all i;
      }))
  | inr other ↦ inl (no_image image other)
]
  where
    alike : slice_index image 0 ≡ first_byte → (i : ℕ) → slice_index image i ≡ slice_index old i
    alike same zero = same ∙ sym first
    alike same (suc i) = torn.same (suc i) (inr (omega arith))
gone_or_whole old image first (inr zeroing) = inl (no_image image (λ e. omega (arith, zeroing.1, e)))

module _ (machine : Machine) (after : Ended) (is : IsWipe meaning (given machine) after) where
  pub no_first_byte : after.status ≡ Done → slice_index (bytes_of after.disk) 0 ≢ first_byte
  no_first_byte e = zeros_are_no_image (bytes_of after.disk) (length (bytes_of machine.disk))
      ((is.wipes refl).wiped e).zero

  pub wipe_cut_short : slice_index (bytes_of machine.disk) 0 ≡ first_byte
      → WipesAllOrNone (meaning machine.disk) (meaning after.disk)
  wipe_cut_short first = record {
    reads = gone_or_whole (bytes_of machine.disk) (bytes_of after.disk) first (is.wipes refl).reads;
    crash = λ durable image left. gone_or_whole (bytes_of machine.disk) image first
        (((is.wipes refl).crash durable).each image left);
  }

-- ---- an image is made behind a wipe

-- a format that does not refuse its disk
unrefused : (status : Status) → IsStatusOf words.Format status → (status ≡ AlreadyImage → ⊥)
    → (status ≡ WrongLength → ⊥) → (status ≡ Done) ⊎ MayComeFirst status
unrefused Done ends image wrong = inl refl
unrefused DiskFault ends image wrong = inr refl
unrefused NoMemory ends image wrong = inr refl
unrefused AlreadyImage ends image wrong = absurd (image refl)
unrefused WrongLength ends image wrong = absurd (wrong refl)
unrefused status ends image wrong = absurd (false≢true ends)

module _ (p : Parameters) (machine : Machine) (middle after : Ended)
    (wipe : IsWipe meaning (given machine) middle)
    (wipe_keeps : KeepsOutside middle.status (meaning machine.disk) (meaning middle.disk)
    (source_state machine.source) (source_state middle.source) (sink_state machine.sink) (sink_state middle.sink))
    (format : IsFormat meaning p (outside_of middle.disk middle.source middle.sink) after)
    (format_keeps : KeepsOutside after.status (meaning middle.disk) (meaning after.disk)
    (source_state middle.source) (source_state after.source) (sink_state middle.sink) (sink_state after.sink)) where
  rose_before : Rose (meaning machine.disk).faults (meaning middle.disk).faults
      → Rose (meaning machine.disk).faults (meaning after.disk).faults
  rose_before rose = let kept = format_keeps.disk_kept.faults in omega arith

  rose_behind : Rose (meaning middle.disk).faults (meaning after.disk).faults
      → Rose (meaning machine.disk).faults (meaning after.disk).faults
  rose_behind rose = let kept = wipe_keeps.disk_kept.faults in omega arith

  pub format_behind_wipe : MakesBehindWipe p middle.status after.status (meaning machine.disk) (meaning after.disk)
  format_behind_wipe =
      let seen = format.observed refl in
      let same = wipe_keeps.disk_kept.size in
      record {
        fresh = seen.formatted;
        not_refused = λ e right.
            unrefused after.status format.ends
            (λ already. no_first_byte machine middle wipe e (seen.already_image.only already).first_is)
            (λ wrong. format.wrong_length.only wrong (same ∙ right));
        wrong_length = exactly format.wrong_length (λ differs right. differs (same ∙ right))
            (λ differs right. differs (sym same ∙ right));
        unwiped = λ e. subst (λ (disk : Disk). FormatsDisk after.status p (meaning disk) (meaning after.disk))
            (wipe.no_memory e) seen;
        made = λ right none. ⊎_elim
            (λ e. inl ((seen.blank (record {
              size_is = same ∙ right;
              other_byte = no_first_byte machine middle wipe e;
            })).complete (λ rose. none (rose_behind rose))))
            (λ lacks. inr lacks) (wipe.complete (λ rose. none (rose_before rose)));
      }
