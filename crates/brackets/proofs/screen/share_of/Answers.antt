use Rattle.std.proofs.Common.{◌^◌, false, sym, subst}
use lib.Ieee.Exact.{HasValue}
use Rattle.brackets.proofs.Shares.{is_share, share_exact}
use Rattle.brackets.proofs.screen.share_of.Goals as goal

pub returns : goal.returns
returns c =
    let is = is_share c.args.number c.nearest_u64_to_f64.result c.nearest_u64_to_f64.ensures in
    record {
      answer = is;
      exact = λ most. subst (λ x. HasValue x false c.args.number (2 ^ 32)) (sym is) (share_exact c.args.number most);
    }
