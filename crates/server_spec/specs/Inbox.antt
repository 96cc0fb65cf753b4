-- Defines which deliveries an inbox has.
use Rattle.std.specs.Prelude.{List, [], ◌∷◌}
use Rattle.filter_types.specs.Notice.{Attribute}
use Rattle.filter_text.specs.Deliveries.{Delivery}
use Rattle.filter_text.specs.NoticeText.{IsNoticeText}

-- the bytes are the text of a notice
abbrev pub IsDelivery : Delivery → Type 0
IsDelivery delivery = (n : List Attribute) × IsNoticeText delivery.bytes n

-- all are so
abbrev pub AreDeliveries : List Delivery → Type 0
AreDeliveries [] = Unit {0}
AreDeliveries (delivery ∷ inbox) = IsDelivery delivery × AreDeliveries inbox
