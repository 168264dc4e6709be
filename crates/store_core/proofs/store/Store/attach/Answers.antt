use Rattle.std.proofs.Common.{Result, sym, subst, ◌∙◌}
use Rattle.image_check.specs.declared.contents.Contents.{Contents}
use Rattle.image_check.specs.declared.fault.AttachFault.{AttachFault}
use Rattle.store_core.specs.Opening.{ChecksSynced, IsOpenAt}
use Rattle.store_core.specs.StoreCalls.{IsRefused}
use Rattle.store_core.proofs.OpeningLemmas.{kept_by_both, refused_recovery, stands, opened, not_failed, opening_tree}
use Rattle.store_core.proofs.OpeningLemmas.{attached}
use Rattle.store_core.proofs.store.Store.attach.Goals as goal

-- recovery failed
pub returns-in-Err-recover : goal.returns-in-Err-recover
returns-in-Err-recover g c =
    let old = g.D.Disk.state c.args.disk in
    let mid = g.D.Disk.state c.check_image-disk.result.0 in
    let new = g.D.Disk.state c.recover.new.disk in
    let checks = subst (λ (r : Result Contents AttachFault). ChecksSynced old mid r)
    c.in-Ok.is c.check_image-disk.ensures in
    let recovery = c.recover.ensures in
    let is = refused_recovery old mid new c.in-Ok.contents checks
    c.recover.result recovery.calls recovery.recovers recovery.quiet recovery.quiet_syncs recovery.makes
    c.in-Err-recover.fault c.in-Err-recover.is in
    record {
      call = record {
        attached = tt;
        refused = subst (λ (fault : AttachFault). IsRefused old fault new) (sym c.into-in-Err-recover.ensures) is;
      };
    }

-- the disk stands at the tree that its image represents
pub open-requires-clause-stands : goal.open-requires-clause-stands
open-requires-clause-stands g c =
    let old = g.D.Disk.state c.args.disk in
    let mid = g.D.Disk.state c.check_image-disk.result.0 in
    let new = g.D.Disk.state c.recover.new.disk in
    let contents = c.in-Ok.contents in
    let checks = subst (λ (r : Result Contents AttachFault). ChecksSynced old mid r)
    c.in-Ok.is c.check_image-disk.ensures in
    let recovery = c.recover.ensures in
    let opening = opening_tree old contents checks.image in (
      opening.0,
      record {
        fitting = opening.1.fitting;
        size_is =
            (kept_by_both old mid new contents checks
            c.recover.result recovery.calls recovery.recovers recovery.quiet recovery.quiet_syncs recovery.makes).size
            ∙ checks.image.has_parameters.size_is;
        stands = λ observable.
            let kept = kept_by_both old mid new contents checks
            c.recover.result recovery.calls recovery.recovers recovery.quiet recovery.quiet_syncs recovery.makes in
            stands old mid new contents checks c.recover.result recovery.calls recovery.recovers recovery.quiet
            recovery.quiet_syncs recovery.makes c.in_default.field-0 c.in_default.is
            (sym kept.observable ∙ observable);
        used_is = λ observable.
            let kept = kept_by_both old mid new contents checks
            c.recover.result recovery.calls recovery.recovers recovery.quiet recovery.quiet_syncs recovery.makes in
            opening.1.used_is (sym kept.observable ∙ observable);
        unseen = λ hidden.
            let kept = kept_by_both old mid new contents checks
            c.recover.result recovery.calls recovery.recovers recovery.quiet recovery.quiet_syncs recovery.makes in
            opening.1.unseen (λ observable. hidden (kept.observable ∙ observable));
      },
    )

pub returns : goal.returns
returns g c =
    let old = g.D.Disk.state c.args.disk in
    let mid = g.D.Disk.state c.check_image-disk.result.0 in
    let new = g.D.Disk.state c.recover.new.disk in
    let contents = c.in-Ok.contents in
    let checks = subst (λ (r : Result Contents AttachFault). ChecksSynced old mid r)
    c.in-Ok.is c.check_image-disk.ensures in
    let recovery = c.recover.ensures in
    let kept = kept_by_both old mid new contents checks
    c.recover.result recovery.calls recovery.recovers recovery.quiet recovery.quiet_syncs recovery.makes in
    let opening = opening_tree old contents checks.image in
    let at : IsOpenAt new contents opening.0 = record {
      fitting = opening.1.fitting;
      size_is = kept.size ∙ checks.image.has_parameters.size_is;
      stands = λ observable. stands old mid new contents checks
          c.recover.result recovery.calls recovery.recovers recovery.quiet recovery.quiet_syncs recovery.makes
          c.in_default.field-0 c.in_default.is (sym kept.observable ∙ observable);
      used_is = λ observable. opening.1.used_is (sym kept.observable ∙ observable);
      unseen = λ hidden. opening.1.unseen (λ observable. hidden (kept.observable ∙ observable));
    } in
    record {
      call = record {
        attached =
            attached g.D.Disk.state old c.recover.new.disk c.open.result opening.0 contents.params
            (c.open.ensures opening.0 at) kept
            (not_failed old mid new contents checks
            c.recover.result recovery.calls recovery.recovers recovery.quiet recovery.quiet_syncs recovery.makes
            c.in_default.field-0 c.in_default.is)
            checks.image.has_parameters opening.1.fitting
            (opened old mid new contents checks c.recover.result recovery.calls recovery.recovers recovery.quiet
            recovery.quiet_syncs recovery.makes c.in_default.field-0 c.in_default.is);
        refused = tt;
      };
    }
