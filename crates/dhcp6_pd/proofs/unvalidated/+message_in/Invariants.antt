use Rattle.dhcp6_pd.proofs.unvalidated.+message_in.Given as goal

abbrev pub decreases-message_in : goal.decreases-message_in
decreases-message_in l = l.left
