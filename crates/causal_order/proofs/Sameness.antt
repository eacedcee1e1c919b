-- The tests of messages decide that messages are the same.
use Rattle.std.specs.Prelude.{◌≡◌, ℕ, true, ◌&&◌, ◌==◌, List, Option, Some, None}
use Rattle.std.specs.Bool.{Decides}
use Rattle.std.specs.Str.{bytes_eq}
use Rattle.std.proofs.Common.{◌∙◌, ap, subst, refl}
use Rattle.std.proofs.lemmas.Bool.Decides.{Decides-eqb, Decides-and, Decides-like}
use Rattle.std.proofs.lemmas.Slice.Eq.{bytes_eq-Decides}
use Rattle.prefix_range.specs.Prefix.{Prefix}
use Rattle.binding_rules.specs.declared.update.Status.{Status}
use Rattle.binding_rules.specs.declared.update.Status.TheVariants.{Active, Expired, Released, Backup, Free, Seized}
use Rattle.binding_rules.specs.declared.update.Update.{Update}
use Rattle.binding_rules.specs.declared.update.Acknowledgement.{Acknowledgement}
use Rattle.binding_rules.specs.declared.update.Acknowledgement.TheVariants.{Accept, Reject}
use Rattle.binding_rules.specs.declared.update.BindReply.{BindReply}
use Rattle.binding_rules.specs.declared.message.Body.{Body}
use Rattle.binding_rules.specs.declared.message.Body.TheVariants.{Update as Updates, Reply, Contact}
use Rattle.binding_rules.specs.declared.message.PartnerMessage.{PartnerMessage}
use Rattle.binding_rules.specs.Statuses.{by_status}
use Rattle.causal_order.specs.Tests.{same_status, same_prefix, same_client, same_update, same_acknowledgement}
use Rattle.causal_order.specs.Tests.{same_reply, same_body, same_message}

status_is : (s t : Status) → same_status s t ≡ true → s ≡ t
status_is Active Active h = refl
status_is Expired Expired h = refl
status_is Released Released h = refl
status_is Backup Backup h = refl
status_is Free Free h = refl
status_is Seized Seized h = refl
status_is _ _ h = cc

status_same : (s : Status) → same_status s s ≡ true
status_same = by_status (λ s. same_status s s ≡ true) refl refl refl refl refl refl

pub decides_status : (s t : Status) → Decides (same_status s t) (s ≡ t)
decides_status s t = (status_is s t, λ e. subst (λ x. same_status s x ≡ true) e (status_same s))

decides_acknowledgement : (a b : Acknowledgement) → Decides (same_acknowledgement a b) (a ≡ b)
decides_acknowledgement Accept Accept = (λ h. refl, λ h. refl)
decides_acknowledgement Reject Reject = (λ h. refl, λ h. refl)
decides_acknowledgement Accept Reject = (λ h. cc, λ h. cc)
decides_acknowledgement Reject Accept = (λ h. cc, λ h. cc)

-- records are equal where their fields are
a_prefix : ℕ → ℕ → Prefix
a_prefix a l = record { address = a; length = l }

prefix_is : (p q : Prefix) → p.address ≡ q.address → p.length ≡ q.length → p ≡ q
unfolding a_prefix
prefix_is p q a b = let h : a_prefix p.address p.length ≡ a_prefix q.address q.length =
    ap (λ x. a_prefix x p.length) a ∙ ap (λ x. a_prefix q.address x) b in h

pub decides_prefix : (p q : Prefix) → Decides (same_prefix p q) (p ≡ q)
decides_prefix p q = Decides-like (same_prefix p q) (λ h. prefix_is p q h.0 h.1)
    (λ e. (ap (λ (x : Prefix). x.address) e, ap (λ (x : Prefix). x.length) e))
    (Decides-and (p.address == q.address) (p.length == q.length) (Decides-eqb p.address q.address)
    (Decides-eqb p.length q.length))

pub decides_client : (c d : Option (List ℕ)) → Decides (same_client c d) (c ≡ d)
decides_client None None = (λ h. refl, λ h. refl)
decides_client (Some c) (Some d) = Decides-like (bytes_eq c d) (λ e. ap (λ x. Some x) e) (λ e. cc)
    (bytes_eq-Decides c d)
decides_client None (Some d) = (λ h. cc, λ h. cc)
decides_client (Some c) None = (λ h. cc, λ h. cc)

a_update : Status → Prefix → (mine seen end iaid : ℕ) → Option (List ℕ) → Update
a_update a b c d e f g = record { status = a; prefix = b; mine = c; seen = d; end = e; iaid = f; client = g }

update_parts : (u v : Update) → u.status ≡ v.status → u.prefix ≡ v.prefix → u.mine ≡ v.mine → u.seen ≡ v.seen
    → u.end ≡ v.end → u.iaid ≡ v.iaid → u.client ≡ v.client
    → a_update u.status u.prefix u.mine u.seen u.end u.iaid u.client
    ≡ a_update v.status v.prefix v.mine v.seen v.end v.iaid v.client
update_parts u v a b c d e f g = cc

pub update_is : (u v : Update) → u.status ≡ v.status → u.prefix ≡ v.prefix → u.mine ≡ v.mine → u.seen ≡ v.seen
    → u.end ≡ v.end → u.iaid ≡ v.iaid → u.client ≡ v.client → u ≡ v
unfolding a_update
update_is u v a b c d e f g = update_parts u v a b c d e f g

pub decides_update : (u v : Update) → Decides (same_update u v) (u ≡ v)
decides_update u v = Decides-like (same_update u v)
    (λ h. update_is u v h.0 h.1.0 h.1.1.0 h.1.1.1.0 h.1.1.1.1.0 h.1.1.1.1.1.0 h.1.1.1.1.1.1)
    (λ e. (
      ap (λ (x : Update). x.status) e,
      (
        ap (λ (x : Update). x.prefix) e,
        (
          ap (λ (x : Update). x.mine) e,
          (
            ap (λ (x : Update). x.seen) e,
            (
              ap (λ (x : Update). x.end) e,
              (ap (λ (x : Update). x.iaid) e, ap (λ (x : Update). x.client) e),
            ),
          ),
        ),
      ),
    ))
    (Decides-and _ _ (decides_status u.status v.status)
    (Decides-and _ _ (decides_prefix u.prefix v.prefix)
    (Decides-and _ _ (Decides-eqb u.mine v.mine) (Decides-and _ _ (Decides-eqb u.seen v.seen)
    (Decides-and _ _ (Decides-eqb u.end v.end)
    (Decides-and _ _ (Decides-eqb u.iaid v.iaid) (decides_client u.client v.client)))))))

a_reply : Acknowledgement → Prefix → (of mine seen : ℕ) → BindReply
a_reply a b c d e = record { acknowledgement = a; prefix = b; of = c; mine = d; seen = e }

reply_parts : (u v : BindReply) → u.acknowledgement ≡ v.acknowledgement → u.prefix ≡ v.prefix → u.of ≡ v.of
    → u.mine ≡ v.mine → u.seen ≡ v.seen
    → a_reply u.acknowledgement u.prefix u.of u.mine u.seen ≡ a_reply v.acknowledgement v.prefix v.of v.mine v.seen
reply_parts u v a b c d e = cc

reply_is : (u v : BindReply) → u.acknowledgement ≡ v.acknowledgement → u.prefix ≡ v.prefix → u.of ≡ v.of
    → u.mine ≡ v.mine → u.seen ≡ v.seen → u ≡ v
unfolding a_reply
reply_is u v a b c d e = reply_parts u v a b c d e

pub decides_reply : (u v : BindReply) → Decides (same_reply u v) (u ≡ v)
decides_reply u v = Decides-like (same_reply u v)
    (λ h. reply_is u v h.0 h.1.0 h.1.1.0 h.1.1.1.0 h.1.1.1.1)
    (λ e. (
      ap (λ (x : BindReply). x.acknowledgement) e,
      (
        ap (λ (x : BindReply). x.prefix) e,
        (
          ap (λ (x : BindReply). x.of) e,
          (ap (λ (x : BindReply). x.mine) e, ap (λ (x : BindReply). x.seen) e),
        ),
      ),
    ))
    (Decides-and _ _ (decides_acknowledgement u.acknowledgement v.acknowledgement)
    (Decides-and _ _ (decides_prefix u.prefix v.prefix)
    (Decides-and _ _ (Decides-eqb u.of v.of)
    (Decides-and _ _ (Decides-eqb u.mine v.mine) (Decides-eqb u.seen v.seen)))))

pub decides_body : (x y : Body) → Decides (same_body x y) (x ≡ y)
decides_body (Updates u) (Updates v) = Decides-like (same_update u v) (λ e. ap Updates e) (λ e. cc) (decides_update u v)
decides_body (Reply u) (Reply v) = Decides-like (same_reply u v) (λ e. ap Reply e) (λ e. cc) (decides_reply u v)
decides_body (Contact a b) (Contact x y) = Decides-like ((a == x) && (b == y)) (λ h. let p = h.0 in let q = h.1 in
    cc) (λ e. ((let r : a ≡ x = cc in r), (let r : b ≡ y = cc in r)))
    (Decides-and _ _ (Decides-eqb a x) (Decides-eqb b y))
decides_body (Updates u) (Reply v) = (λ h. cc, λ h. cc)
decides_body (Updates u) (Contact x y) = (λ h. cc, λ h. cc)
decides_body (Reply u) (Updates v) = (λ h. cc, λ h. cc)
decides_body (Reply u) (Contact x y) = (λ h. cc, λ h. cc)
decides_body (Contact a b) (Updates v) = (λ h. cc, λ h. cc)
decides_body (Contact a b) (Reply v) = (λ h. cc, λ h. cc)

a_message : ℕ → ℕ → Body → PartnerMessage
a_message a b c = record { term = a; serial = b; body = c }

message_parts : (x y : PartnerMessage) → x.term ≡ y.term → x.serial ≡ y.serial → x.body ≡ y.body
    → a_message x.term x.serial x.body ≡ a_message y.term y.serial y.body
message_parts x y a b c = cc

pub message_is : (x y : PartnerMessage) → x.term ≡ y.term → x.serial ≡ y.serial → x.body ≡ y.body → x ≡ y
unfolding a_message
message_is x y a b c = message_parts x y a b c

pub decides_message : (x y : PartnerMessage) → Decides (same_message x y) (x ≡ y)
decides_message x y = Decides-like (same_message x y) (λ h. message_is x y h.0 h.1.0 h.1.1)
    (λ e. (
      ap (λ (z : PartnerMessage). z.term) e,
      (ap (λ (z : PartnerMessage). z.serial) e, ap (λ (z : PartnerMessage). z.body) e),
    ))
    (Decides-and _ _ (Decides-eqb x.term y.term)
    (Decides-and _ _ (Decides-eqb x.serial y.serial) (decides_body x.body y.body)))
