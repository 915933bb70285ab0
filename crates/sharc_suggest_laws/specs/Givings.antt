-- What is given in a program with a cast written in it.
use Rattle.sharc_suggest_laws.specs.{declared.written.Recast.Recast, Recast.{with_cast, all_with_cast, around}}
use Rattle.sharc_suggest.specs.Givings.{Receiver, of_declared, of_left, of_parameter, Giving}

abbrev pub receiver_with : Recast → Receiver → Receiver
receiver_with c (of_declared token) = of_declared token
receiver_with c (of_left u) = of_left (with_cast c u)
receiver_with c (of_parameter f all k) = of_parameter f (all_with_cast c all) k

abbrev pub giving_with : Recast → Giving → Giving
giving_with c g =
    record { scope = g.scope; receiver = receiver_with c g.receiver; given = around c (with_cast c g.given) }
