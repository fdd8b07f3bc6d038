-- A line and the operation that it stands for.
use Rattle.std.proofs.Common.{◌≡◌, ℕ, ◌<◌, ◌≤◌, List, length, Some, None, Option, refl, ap, ◌∙◌, subst}
use Rattle.std.specs.List.{slice_get}
use Rattle.std.specs.Option.{option_map}
use Rattle.words.specs.Words.{Sound}
use Rattle.lines.specs.declared.line.Operand.{Operand}
use Rattle.lines.specs.declared.line.Operand.TheVariants.{Named, Held}
use Rattle.lines.specs.declared.line.Line.{Line}
use Rattle.lines.specs.declared.line.Line.TheVariants as line
use Rattle.lines.specs.Roles.{role}
use Rattle.lines.specs.Shows.{from_operand, Good}
use Rattle.script.specs.Rules.{place}
use Rattle.script_laws.specs.Lawful as lawful
use Rattle.linking.specs.declared.declared.Declared.{Declared}
use Rattle.lines.specs.declared.line.Kind.{Kind}
use Rattle.lines.specs.declared.line.Kind.TheVariants.{Value, Handle}
use Rattle.linking.specs.declared.operation.Operation.{Operation}
use Rattle.linking.specs.declared.operation.Operation.TheVariants.{Hold, Alone, Case, Close, Start}
use Rattle.linking.specs.declared.operation.Exchange.{Exchange}
use Rattle.linking.specs.declared.operation.Exchange.TheVariants.{Send, Receive, SendHandle, ReceiveHandle}
use Rattle.linking.specs.Naming.{Known, suited, of_kind, channel, operand, operation}
use Rattle.linking.specs.Sound.{Uses, UsesOperand, SoundOperation}
use Rattle.linking.specs.Meaning.{name_at, named_operand, named}
use Rattle.std.proofs.lemmas.Option.{none-some, same_Some, cond_some}
use Rattle.linking.proofs.Found.{mapped_back, place_back}

of_kind_back : (w : Option Kind) (ds : List Declared) (o : Option ℕ) (c : ℕ) → of_kind w ds o ≡ Some c → (o ≡ Some c) × Uses ds w c
of_kind_back w ds None c e = absurd (none-some _ e)
of_kind_back w ds (Some d) c e = let s = cond_some (suited w (slice_get ds d)) d c e in (ap Some s.1, subst (Uses ds w) s.1 s.0)

module _ (k : Known) where
  -- ---- what a name or an operand stands for
  channel_back : (w : Option Kind) (x : List ℕ) (c : ℕ) → channel k w x ≡ Some c → (name_at k.names c ≡ x) × Uses k.channels w c
  channel_back w x c e =
      let o = of_kind_back w k.channels (place x k.names) c e in
      ((place_back x k.names c o.0).1, o.1)

  operand_back : (w : Option Kind) (q : Operand (List ℕ)) (p : Operand ℕ) → operand k w q ≡ Some p → (named_operand k p ≡ q) × (Sound (from_operand q) → UsesOperand k.channels w p)
  operand_back w (Named x) p e =
      let m = mapped_back Named (channel k w x) p e in
      let c = channel_back w x m.0 m.1 in
      let P : Operand ℕ → Type 0 = λ o. (named_operand k o ≡ Named x) × (Sound (from_operand (Named x)) → UsesOperand k.channels w o) in
      subst P m.2 (ap Named c.0, λ s. c.1)
  operand_back w (Held h) p e =
      let P : Operand ℕ → Type 0 = λ o. (named_operand k o ≡ Held h) × (h < 4 → UsesOperand k.channels w o) in
      subst P (same_Some _ _ e) (refl, λ s. s)

  -- ---- what a line stands for: it comes back by its names, and its numbers are in range
  pub record Meant (l : Line (List ℕ)) (o : Operation) : Type 0 where
    pub back : named k o ≡ l
    pub in_range : Good l → lawful.asks (role l) ≤ 8 → SoundOperation k.channels (length k.bodies) o

  -- an operation that is made from an operand, or from a channel's name
  operand_to : (w : Option Kind) (q : Operand (List ℕ)) (f : Operand ℕ → Exchange ℕ) (g : Exchange ℕ → Operation) (P : Operation → Type 0) (o : Operation) → option_map g (option_map f (operand k w q)) ≡ Some o → ((p : Operand ℕ) → named_operand k p ≡ q → (Sound (from_operand q) → UsesOperand k.channels w p) → P (g (f p))) → P o
  operand_to w q f g P o e make =
      let m = mapped_back g (option_map f (operand k w q)) o e in
      let n = mapped_back f (operand k w q) m.0 m.1 in
      let b = operand_back w q n.0 n.1 in
      subst P (ap g n.2 ∙ m.2) (make n.0 b.0 b.1)

  channel_to : (w : Option Kind) (x : List ℕ) (f : ℕ → Exchange ℕ) (g : Exchange ℕ → Operation) (P : Operation → Type 0) (o : Operation) → option_map g (option_map f (channel k w x)) ≡ Some o → ((c : ℕ) → name_at k.names c ≡ x → Uses k.channels w c → P (g (f c))) → P o
  channel_to w x f g P o e make =
      let m = mapped_back g (option_map f (channel k w x)) o e in
      let n = mapped_back f (channel k w x) m.0 m.1 in
      let b = channel_back w x n.0 n.1 in
      subst P (ap g n.2 ∙ m.2) (make n.0 b.0 b.1)

  pub meant : (l : Line (List ℕ)) (o : Operation) → operation k l ≡ Some o → Meant l o
  meant (line.Set v n) o e = subst (Meant (line.Set v n)) (same_Some _ _ e) (record { back = refl; in_range = λ g h. g.0 })
  meant (line.Add v w) o e = subst (Meant (line.Add v w)) (same_Some _ _ e) (record { back = refl; in_range = λ g h. g })
  meant (line.Sub v w) o e = subst (Meant (line.Sub v w)) (same_Some _ _ e) (record { back = refl; in_range = λ g h. g })
  meant (line.Jump t) o e = subst (Meant (line.Jump t)) (same_Some _ _ e) (record { back = refl; in_range = λ g h. tt })
  meant (line.JumpNegative v t) o e = subst (Meant (line.JumpNegative v t)) (same_Some _ _ e) (record { back = refl; in_range = λ g h. g.0 })
  meant (line.Hold h x) o e =
      let m = mapped_back (λ c. Hold h c) (channel k (Some Value) x) o e in
      let b = channel_back (Some Value) x m.0 m.1 in
      subst (Meant (line.Hold h x)) m.2 (record { back = ap (line.Hold h) b.0; in_range = λ g s. (g.0, b.1) })
  meant (line.Clear h) o e = subst (Meant (line.Clear h)) (same_Some _ _ e) (record { back = refl; in_range = λ g s. g })
  meant (line.Send q v) o e =
      operand_to (Some Value) q (λ p. Send p v) Alone (Meant (line.Send q v)) o e
      (λ p n u. record { back = ap (λ z. line.Send z v) n; in_range = λ g s. (u g.0, g.1) })
  meant (line.Receive q v w) o e =
      operand_to (Some Value) q (λ p. Receive p v w) Alone (Meant (line.Receive q v w)) o e
      (λ p n u. record { back = ap (λ z. line.Receive z v w) n; in_range = λ g s. (u g.0, g.1.0, g.1.1) })
  meant (line.SendHandle x h) o e =
      channel_to (Some Handle) x (λ c. SendHandle c h) Alone (Meant (line.SendHandle x h)) o e
      (λ c n u. record { back = ap (λ z. line.SendHandle z h) n; in_range = λ g s. (u, g.1) })
  meant (line.ReceiveHandle x h w) o e =
      channel_to (Some Handle) x (λ c. ReceiveHandle c h w) Alone (Meant (line.ReceiveHandle x h w)) o e
      (λ c n u. record { back = ap (λ z. line.ReceiveHandle z h w) n; in_range = λ g s. (u, g.1.0, g.1.1) })
  meant (line.Close q) o e =
      let m = mapped_back Close (operand k None q) o e in
      let b = operand_back None q m.0 m.1 in
      subst (Meant (line.Close q)) m.2 (record { back = ap line.Close b.0; in_range = λ g s. b.1 g })
  meant (line.Select n) o e = subst (Meant (line.Select n)) (same_Some _ _ e) (record { back = refl; in_range = λ g s. s })
  meant (line.CaseSend q v t) o e =
      operand_to (Some Value) q (λ p. Send p v) (λ f. Case f t) (Meant (line.CaseSend q v t)) o e
      (λ p n u. record { back = ap (λ z. line.CaseSend z v t) n; in_range = λ g s. (u g.0, g.1.0) })
  meant (line.CaseReceive q v w t) o e =
      operand_to (Some Value) q (λ p. Receive p v w) (λ f. Case f t) (Meant (line.CaseReceive q v w t)) o e
      (λ p n u. record { back = ap (λ z. line.CaseReceive z v w t) n; in_range = λ g s. (u g.0, g.1.0.0, g.1.0.1) })
  meant (line.CaseSendHandle x h t) o e =
      channel_to (Some Handle) x (λ c. SendHandle c h) (λ f. Case f t) (Meant (line.CaseSendHandle x h t)) o e
      (λ c n u. record { back = ap (λ z. line.CaseSendHandle z h t) n; in_range = λ g s. (u, g.1.0) })
  meant (line.CaseReceiveHandle x h w t) o e =
      channel_to (Some Handle) x (λ c. ReceiveHandle c h w) (λ f. Case f t) (Meant (line.CaseReceiveHandle x h w t)) o e
      (λ c n u. record { back = ap (λ z. line.CaseReceiveHandle z h w t) n; in_range = λ g s. (u, g.1.0.0, g.1.0.1) })
  meant (line.CaseDefault t) o e = subst (Meant (line.CaseDefault t)) (same_Some _ _ e) (record { back = refl; in_range = λ g s. tt })
  meant (line.Start x) o e =
      let m = mapped_back Start (place x k.bodies) o e in
      let b = place_back x k.bodies m.0 m.1 in
      subst (Meant (line.Start x)) m.2 (record { back = ap line.Start b.1; in_range = λ g s. b.0 })
  meant (line.Print v) o e = subst (Meant (line.Print v)) (same_Some _ _ e) (record { back = refl; in_range = λ g s. g })
  meant _ o e = absurd (none-some _ e)
