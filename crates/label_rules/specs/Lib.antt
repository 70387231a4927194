pub mod LabelBy
