pub mod CopyLaws
pub mod EndLaws
pub mod MasterLaws
pub mod ReceiverLaws
pub mod RingLaws
pub mod SiloLaws
pub mod TransmitterLaws
